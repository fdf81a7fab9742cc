-- The copies of statements.
use Rattle.std.specs.Prelude.{ℕ, zero, suc, ◌+◌, ◌-◌, Bool, true, false, Option, Some, None, nat_eq}
use Rattle.xw_words.specs.declared.pos.Pos.{Pos}
use Rattle.xc_tree.specs.Plain as tree
use Rattle.xc_kernel.specs.Plain as kernel
use Rattle.xc_tree.specs.Symbols.{equals}
use Rattle.xc_kernel.specs.Scopes.{Scope}
use Rattle.xc_kernel.specs.Expressions.{updated}
use Rattle.xc_kernel.specs.Copy.{Copy, no_copy, one_statement, joined, followed_by, in_scope_of}
use Rattle.xc_kernel.specs.Context.{Context, in_branch, in_loop, in_case, expression, place, set_word, leave}
use Rattle.xc_kernel.specs.Calls.{CopiesCall, right_is_unsigned, value_of, right_copy, function_copy, path_of_call}
use Rattle.xc_kernel.specs.Declarations.{declarations_copy}
use Rattle.xc_kernel.specs.Transfers.{output_copy, input_copy}
use Rattle.xc_kernel.specs.Flow.{if_parts, while_copy, do_while_copy, for_parts, Branched, no_branches, branch_then, par_copy, numbered_copy, replicated, Cased, no_cases, case_scope, and_case, select_copy, transaction_copy}

-- the first token of a statement, and of a branch's statement
abbrev pub pos_of : tree.Statement → Pos
pos_of (tree.statement action pos close own) = pos

abbrev pub pos_of_branch : tree.Branch → Pos
pos_of_branch (tree.branch place s) = pos_of s

-- `place op= e`, or a step by 1. `x++` has its operation at the place of x, since the tree has no place for the `++`. Nothing is ever
-- reported there.
abbrev pub update_copy : Context → Scope → tree.Expression → (symbol : ℕ) → Pos → Bool → kernel.Expression → Copy
update_copy c scope to symbol pos u e = one_statement scope (kernel.set (place c scope to) (updated c.numbering scope to symbol pos u e))

module _ (copies : CopiesCall) where
  -- the right side comes first, then the index at the left
  abbrev pub set_copy : Context → Scope → tree.Expression → tree.RightSide → Copy
  set_copy c scope to r = joined (right_copy copies c scope r) (one_statement scope (kernel.set (place c scope to) (value_of c scope r)))

  -- `assign_copy`, by cases
  abbrev pub assign_by : Context → Scope → tree.Expression → (symbol : ℕ) → Pos → tree.RightSide → Bool → Copy
  assign_by c scope to symbol pos r true = set_copy c scope to r
  assign_by c scope to symbol pos r false = update_copy c scope to symbol pos (right_is_unsigned scope r) (value_of c scope r)

  -- by `=`, or by an operator
  abbrev pub assign_copy : Context → Scope → tree.Expression → (symbol : ℕ) → Pos → tree.RightSide → Copy
  assign_copy c scope to symbol pos r = assign_by c scope to symbol pos r (nat_eq symbol equals)

  -- the value is stored in the result, and the body is left
  abbrev pub return_copy : Context → Scope → Option tree.RightSide → Copy
  return_copy c scope None = one_statement scope (leave c c.returns)
  return_copy c scope (Some r) =
      joined (right_copy copies c scope r)
      (joined (one_statement scope (set_word c c.result (value_of c scope r))) (one_statement scope (leave c c.returns)))

  abbrev mutual
    pub statement_copy : tree.Statement → Context → Scope → Copy
    statement_copy (tree.statement action pos close own) c scope = action_copy action pos close c scope

    pub action_copy : tree.Action → (pos close : Pos) → Context → Scope → Copy
    action_copy tree.empty pos close c scope = no_copy scope
    action_copy (tree.block ss) pos close c scope = in_scope_of scope (statements_copy ss c scope)
    action_copy (tree.declare ds) pos close c scope = declarations_copy copies c ds scope
    action_copy (tree.assign to symbol at r) pos close c scope = assign_copy c scope to symbol at r
    action_copy (tree.step to symbol) pos close c scope = update_copy c scope to symbol pos false (kernel.number 1)
    action_copy (tree.perform r) pos close c scope = right_copy copies c scope r
    action_copy (tree.output o) pos close c scope = output_copy c scope o
    action_copy (tree.input i) pos close c scope = input_copy c scope i
    action_copy (tree.if_then test a b) pos close c scope =
        if_parts (expression c scope test) (statement_copy a c scope) (maybe_copy b c)
    action_copy (tree.while_loop test body) pos close c scope =
        while_copy c pos (expression c scope test) (statement_copy body (in_loop c pos) scope)
    action_copy (tree.do_while body test) pos close c scope = do_while_copy c pos test (statement_copy body (in_loop c pos) scope)
    action_copy (tree.for_loop first test next body) pos close c scope =
        in_scope_of scope (followed_by (maybe_copy first c scope) (for_parts c pos test (maybe_copy next c) (statement_copy body (in_loop c pos))))
    action_copy (tree.return_with r) pos close c scope = return_copy c scope r
    action_copy tree.break_out pos close c scope = one_statement scope (leave c c.breaks)
    action_copy tree.continue_on pos close c scope = one_statement scope (leave c c.continues)
    action_copy (tree.par bs) pos close c scope = par_copy (branches_copy bs 0 c scope)
    action_copy (tree.replicated first second third from until b) pos close c scope =
        par_copy (replicated (numbered_copy (branch_copy b) c scope first.text) (pos_of_branch b) scope (until - from) 0 from)
    action_copy (tree.select cs) pos close c scope = select_copy scope pos (cases_copy cs c scope)
    action_copy (tree.transaction is_master ss) pos close c scope = transaction_copy c scope is_master pos close (statements_copy ss c scope)

    pub maybe_copy : tree.Maybe → Context → Scope → Copy
    maybe_copy tree.absent c scope = no_copy scope
    maybe_copy (tree.present s) c scope = statement_copy s c scope

    pub statements_copy : tree.Statements → Context → Scope → Copy
    statements_copy tree.no_more c scope = no_copy scope
    statements_copy (tree.more s ss) c scope = followed_by (statement_copy s c scope) (statements_copy ss c)

    pub branch_copy : tree.Branch → Context → Scope → Copy
    branch_copy (tree.branch place s) c scope = statement_copy s c scope

    -- from an index on; a name that one branch declares is known in the later ones
    pub branches_copy : tree.Branches → ℕ → Context → Scope → Branched
    branches_copy tree.no_branch index c scope = no_branches scope
    branches_copy (tree.more_branches b bs) index c scope =
        branch_then (pos_of_branch b) (branch_copy b (in_branch c index) scope) (branches_copy bs (index + 1) c)

    pub cases_copy : tree.Cases → Context → Scope → Cased
    cases_copy tree.no_case c scope = no_cases scope
    cases_copy (tree.more_cases a cs) c scope = case_copy a c scope (cases_copy cs c scope)

    pub case_copy : tree.Case → Context → Scope → Cased → Cased
    case_copy (tree.case pos guard i ss) c scope others =
        and_case c scope pos guard i (statements_copy ss (in_case c pos) (case_scope c scope i)) others

-- calls that go at most so deep, each with its body in place
abbrev pub calls_copy : ℕ → CopiesCall
calls_copy zero c scope f pos args = no_copy scope
calls_copy (suc n) c scope f pos args = function_copy (statement_copy (calls_copy n)) c scope (path_of_call c pos) f args
