-- The copies of `if`, loops, `par`, `select` and transactions, by the copies of their parts.
use Rattle.std.specs.Prelude.{ℕ, zero, suc, ◌+◌, Bool, List, [], ◌∷◌, Option, Some, None}
use Rattle.xw_words.specs.declared.pos.Pos.{Pos}
use Rattle.xc_tree.specs.Plain as tree
use Rattle.xc_kernel.specs.Plain as kernel
use Rattle.xc_kernel.specs.Paths.{Path, path_at, path_of_turn}
use Rattle.xc_kernel.specs.Numbering.{channel_number}
use Rattle.xc_kernel.specs.Scopes.{Scope, a_constant, with_name}
use Rattle.xc_kernel.specs.Copy.{Copy, no_copy, joined, in_scope_of, with_code, with_block, code_of}
use Rattle.xc_kernel.specs.Context.{Context, in_branch, expression, maybe_expression, block_at, leave}
use Rattle.xc_kernel.specs.Transfers.{input_of, input_names}

-- what is done where the test holds, and where not
abbrev pub if_copy : kernel.Expression → Copy → Copy → Copy
if_copy test a b = with_code (joined a b) (kernel.if_then test (code_of a) (code_of b) ∷ [])

-- the same, where the second knows the names of the first
abbrev pub if_parts : kernel.Expression → Copy → (Scope → Copy) → Copy
if_parts test a b = if_copy test a (b a.scope)

-- Loops: in a block that `break` leaves, the loop; in it, the body in a block that `continue` leaves.

-- the statements of a loop's turn: the body, and what else is done in each turn
abbrev pub iteration : Context → Path → List kernel.Statement → List kernel.Statement → kernel.Statements
iteration c path body rest = kernel.statements (block_at c (path_of_turn path) body ∷ rest)

-- a loop of this path, with the copy of all that it holds
abbrev pub loop_at : Context → Path → kernel.Expression → (body next : kernel.Statements) → Copy → Copy
loop_at c path test body next held =
    with_block (with_block (with_code held (block_at c path (kernel.loop test body next ∷ []) ∷ [])) (path_of_turn path)) path

-- a loop whose word stands at a place
abbrev pub loop_copy : Context → Pos → kernel.Expression → (body next : kernel.Statements) → Copy → Copy
loop_copy c pos test body next held = loop_at c (path_at c.path pos) test body next held

-- a test before each turn
abbrev pub while_copy : Context → Pos → kernel.Expression → Copy → Copy
while_copy c pos test body = loop_copy c pos test (iteration c (path_at c.path pos) body.code []) kernel.no_more body

-- the block of this path is left where the test is 0
abbrev pub leave_unless : Context → Path → kernel.Expression → kernel.Statement
leave_unless c path test = kernel.if_then test kernel.no_more (kernel.statements (leave c path ∷ []))

-- Each turn ends with the test. The body is the block of the loop's statement, and then an `if` that leaves the loop's block where the
-- test is 0. So a `continue` meets the test.
abbrev pub do_while_copy : Context → Pos → tree.Expression → Copy → Copy
do_while_copy c pos test body =
    loop_copy c pos (kernel.number 1)
    (iteration c (path_at c.path pos) body.code (leave_unless c (path_at c.path pos) (expression c body.scope test) ∷ [])) kernel.no_more body

-- without a test a loop goes on for ever
abbrev pub test_or_true : Option kernel.Expression → kernel.Expression
test_or_true None = kernel.number 1
test_or_true (Some e) = e

-- a `for` behind its beginning: its test, what follows each turn, and its body
abbrev pub for_copy : Context → Pos → Scope → Option tree.Expression → Copy → Copy → Copy
for_copy c pos scope test next body =
    loop_copy c pos (test_or_true (maybe_expression c scope test)) (iteration c (path_at c.path pos) body.code []) (code_of next) (joined next body)

-- the same by how what follows each turn and the body are copied
abbrev pub for_parts : Context → Pos → Option tree.Expression → (next body : Scope → Copy) → Scope → Copy
for_parts c pos test next body scope = for_copy c pos scope test (next scope) (body scope)

-- Branches.

-- the instances of some branches and the names behind them, and the branches
pub record Branched : Type 0 where
  pub made : Copy
  pub branches : kernel.Branches

-- no branches
abbrev pub no_branches : Scope → Branched
no_branches scope = record { made = no_copy scope; branches = kernel.no_branch }

-- a branch whose statement begins at a place, before others
abbrev pub and_branch : Pos → Copy → Branched → Branched
and_branch pos copy others = record {
  made = joined (with_code copy []) others.made;
  branches = kernel.more_branches (kernel.branch (code_of copy) pos) others.branches;
}

-- a branch, and behind it those that know its names
abbrev pub branch_then : Pos → Copy → (Scope → Branched) → Branched
branch_then pos copy others = and_branch pos copy (others copy.scope)

-- a `par` of branches
abbrev pub par_copy : Branched → Copy
par_copy b = with_code b.made (kernel.par b.branches ∷ [])

-- the copy of a replicated branch with this index, in which a name stands for a number
abbrev pub numbered_copy : (Context → Scope → Copy) → Context → Scope → List ℕ → (index number : ℕ) → Copy
numbered_copy copy c scope name index number = in_scope_of scope (copy (in_branch c index) (with_name scope name (a_constant number)))

-- so many copies of a branch that begins at a place, from an index and a number on
abbrev pub replicated : (ℕ → ℕ → Copy) → Pos → Scope → (count index number : ℕ) → Branched
replicated copy pos scope zero index number = no_branches scope
replicated copy pos scope (suc count) index number =
    and_branch pos (copy index number) (replicated copy pos scope count (index + 1) (number + 1))

-- Cases.

-- the instances of some cases, the cases, and the `default`
pub record Cased : Type 0 where
  pub made : Copy
  pub cases : kernel.Cases
  pub otherwise : kernel.Default

-- no cases
abbrev pub no_cases : Scope → Cased
no_cases scope = record { made = no_copy scope; cases = kernel.no_case; otherwise = kernel.no_default }

-- the body of a case that begins at a place, in the block that its `break` leaves
abbrev pub case_body : Context → Pos → Copy → kernel.Statements
case_body c pos body = kernel.statements (block_at c (path_at c.path pos) body.code ∷ [])

-- the instances of a case: those of its body, and the block
abbrev pub case_made : Context → Pos → Copy → Copy
case_made c pos body = with_block (with_code body []) (path_at c.path pos)

-- the names that are known in a case's body
abbrev pub case_scope : Context → Scope → Option tree.Input → Scope
case_scope c scope None = scope
case_scope c scope (Some i) = (input_names c scope i).scope

-- a case that begins at a place, or the `default`, before others
abbrev pub and_case : Context → Scope → Pos → Option tree.Expression → Option tree.Input → Copy → Cased → Cased
and_case c scope pos guard None body others = record {
  made = joined (case_made c pos body) others.made;
  cases = others.cases;
  otherwise = kernel.default (case_body c pos body);
}
and_case c scope pos guard (Some i) body others = record {
  made = joined (joined (input_names c scope i) (case_made c pos body)) others.made;
  cases = kernel.more_cases (kernel.case (maybe_expression c scope guard) (input_of c scope i) (case_body c pos body)) others.cases;
  otherwise = others.otherwise;
}

-- a `select` of cases, each of which is a scope
abbrev pub select_copy : Scope → Pos → Cased → Copy
select_copy scope pos s = in_scope_of scope (with_code s.made (kernel.select s.cases s.otherwise pos ∷ []))

-- the first path of some
abbrev pub first_of : List Path → Path
first_of [] = []
first_of (path ∷ paths) = path

-- a transaction, on the one channel that its communications name
abbrev pub transaction_copy : Context → Scope → (is_master : Bool) → (start close : Pos) → Copy → Copy
transaction_copy c scope is_master start close body =
    in_scope_of scope
    (with_code body (kernel.transaction (channel_number c.numbering (first_of body.named)) is_master (code_of body) start close ∷ []))
