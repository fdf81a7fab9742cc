-- The copy of a statement is the same at each depth to which calls are followed that its own calls stay within.
use Rattle.std.proofs.Common.{◌≡◌, ◌≤◌, IsNone, arith, true≢false, ℕ, zero, suc, ◌+◌, ◌-◌, Bool, true, false, List, [], ◌∷◌, length, Option, Some, None, nat_eq, refl, sym, subst}
use Rattle.xw_words.specs.declared.pos.Pos.{Pos}
use Rattle.xc_tree.specs.Plain as tree
use Rattle.xc_kernel.specs.Plain as kernel
use Rattle.xc_tree.specs.Symbols.{equals}
use Rattle.xc_kernel.specs.Paths.{Path, path_at}
use Rattle.xc_kernel.specs.Scopes.{Scope, a_constant, with_name}
use Rattle.xc_kernel.specs.Programs.{Function, function_named}
use Rattle.xc_kernel.specs.Copy.{Copy, one_statement, joined, in_scope_of}
use Rattle.xc_kernel.specs.Context.{Context, in_branch, in_loop, in_case, in_function, expression, place, set_word, leave}
use Rattle.xc_kernel.specs.Parameters.{all_passed}
use Rattle.xc_kernel.specs.Calls.{CopiesCall, instance_of, result_copy, as_block, naming_none, call_copy, right_copy, function_copy, value_of, called, call_by, path_of_call}
use Rattle.xc_kernel.specs.Declarations.{initial_copy, kind_copy, declarations_copy}
use Rattle.xc_kernel.specs.Context.{declares_word}
use Rattle.xc_kernel.specs.Flow.{if_copy, while_copy, do_while_copy, for_copy, and_branch, par_copy, replicated, numbered_copy, Cased, case_scope, and_case, select_copy, transaction_copy}
use Rattle.xc_kernel.specs.Statements.{pos_of_branch, assign_by, return_copy, statement_copy, action_copy, maybe_copy, statements_copy, branch_copy, branches_copy, cases_copy, case_copy, calls_copy}
use Rattle.xc_meaning.specs.Texts.Called.{EachRight, EachMaybeRight, EachKind, EachName, EachCall, EachIn, EachMaybe, EachOf, EachOne, EachBranch, EachCase, EachOneCase, EachInFunction, GoesWithin}

-- two ways to copy calls that agree on some calls in programs of these functions
pub record Agree (fs : List Function) (Holds : tree.Call → Type 0) (one other : CopiesCall) : Type 0 where
  pub same : (call : tree.Call) → Holds call → (c : Context) (scope : Scope) → c.functions ≡ fs → call_copy one c scope call ≡ call_copy other c scope call

module _ (fs : List Function) (Holds : tree.Call → Type 0) (one other : CopiesCall) (agree : Agree fs Holds one other) where
  pub same_right : (r : tree.RightSide) (c : Context) (scope : Scope) → c.functions ≡ fs → EachRight Holds r → right_copy one c scope r ≡ right_copy other c scope r
  same_right (tree.value e) c scope fine h = refl
  same_right (tree.result call) c scope fine h = agree.same call h c scope fine

  same_initial : (c : Context) (path : Path) (r : Option tree.RightSide) (scope : Scope) → c.functions ≡ fs → EachMaybeRight Holds r → initial_copy one c path r scope ≡ initial_copy other c path r scope
  same_initial c path None scope fine h = refl
  same_initial c path (Some r) scope fine h = λ i. joined (same_right r c scope fine h i) (one_statement scope (set_word c path (value_of c scope r)))

  pub same_kind : (c : Context) (scope : Scope) (name : List ℕ) (pos : Pos) (k : tree.Kind) → c.functions ≡ fs → EachKind Holds k → kind_copy one c scope name pos k ≡ kind_copy other c scope name pos k
  same_kind c scope name pos (tree.word u r) fine h =
      λ i. joined (declares_word c name pos u scope) (same_initial c (path_at c.path pos) r (declares_word c name pos u scope).scope fine h i)
  same_kind c scope name pos (tree.array u length at) fine h = refl
  same_kind c scope name pos (tree.channel streaming) fine h = refl
  same_kind c scope name pos tree.timer fine h = refl

  pub same_declarations : (ds : List tree.Declaration) (c : Context) (scope : Scope) → c.functions ≡ fs → EachName Holds ds → declarations_copy one c ds scope ≡ declarations_copy other c ds scope
  same_declarations [] c scope fine h = refl
  same_declarations (d ∷ ds) c scope fine h =
      let e = same_kind c scope d.name.text d.name.pos d.kind fine h.0 in
      λ i. joined (e i) (same_declarations ds c (e i).scope fine h.1 i)

  same_assign : (c : Context) (scope : Scope) (to : tree.Expression) (symbol : ℕ) (pos : Pos) (r : tree.RightSide) (b : Bool) → c.functions ≡ fs → EachRight Holds r → assign_by one c scope to symbol pos r b ≡ assign_by other c scope to symbol pos r b
  same_assign c scope to symbol pos r true fine h = λ i. joined (same_right r c scope fine h i) (one_statement scope (kernel.set (place c scope to) (value_of c scope r)))
  same_assign c scope to symbol pos r false fine h = refl

  same_return : (c : Context) (scope : Scope) (r : Option tree.RightSide) → c.functions ≡ fs → EachMaybeRight Holds r → return_copy one c scope r ≡ return_copy other c scope r
  same_return c scope None fine h = refl
  same_return c scope (Some r) fine h =
      λ i. joined (same_right r c scope fine h i)
      (joined (one_statement scope (set_word c c.result (value_of c scope r))) (one_statement scope (leave c c.returns)))

  same_replicated : (copy copy' : ℕ → ℕ → Copy) (pos : Pos) (scope : Scope) → ((index number : ℕ) → copy index number ≡ copy' index number) → (count index number : ℕ) → replicated copy pos scope count index number ≡ replicated copy' pos scope count index number
  same_replicated copy copy' pos scope each zero index number = refl
  same_replicated copy copy' pos scope each (suc count) index number =
      λ i. and_branch pos (each index number i) (same_replicated copy copy' pos scope each count (index + 1) (number + 1) i)

  mutual
    pub same_statement : (s : tree.Statement) (c : Context) (scope : Scope) → c.functions ≡ fs → EachCall Holds s → statement_copy one s c scope ≡ statement_copy other s c scope
    same_statement (tree.statement action pos close own) c scope fine h = same_action action pos close c scope fine h

    pub same_action : (a : tree.Action) (pos close : Pos) (c : Context) (scope : Scope) → c.functions ≡ fs → EachIn Holds a → action_copy one a pos close c scope ≡ action_copy other a pos close c scope
    same_action tree.empty pos close c scope fine h = refl
    same_action (tree.block ss) pos close c scope fine h = λ i. in_scope_of scope (same_statements ss c scope fine h i)
    same_action (tree.declare ds) pos close c scope fine h = same_declarations ds c scope fine h
    same_action (tree.assign to symbol at r) pos close c scope fine h = same_assign c scope to symbol at r (nat_eq symbol equals) fine h
    same_action (tree.step to symbol) pos close c scope fine h = refl
    same_action (tree.perform r) pos close c scope fine h = same_right r c scope fine h
    same_action (tree.output o) pos close c scope fine h = refl
    same_action (tree.input i) pos close c scope fine h = refl
    same_action (tree.if_then test a b) pos close c scope fine h =
        let e = same_statement a c scope fine h.0 in
        λ i. if_copy (expression c scope test) (e i) (same_maybe b c (e i).scope fine h.1 i)
    same_action (tree.while_loop test body) pos close c scope fine h =
        λ i. while_copy c pos (expression c scope test) (same_statement body (in_loop c pos) scope fine h i)
    same_action (tree.do_while body test) pos close c scope fine h = λ i. do_while_copy c pos test (same_statement body (in_loop c pos) scope fine h i)
    same_action (tree.for_loop first test next body) pos close c scope fine h =
        let e = same_maybe first c scope fine h.0 in
        λ i. in_scope_of scope (joined (e i) (for_copy c pos (e i).scope test (same_maybe next c (e i).scope fine h.1 i) (same_statement body (in_loop c pos) (e i).scope fine h.2 i)))
    same_action (tree.return_with r) pos close c scope fine h = same_return c scope r fine h
    same_action tree.break_out pos close c scope fine h = refl
    same_action tree.continue_on pos close c scope fine h = refl
    same_action (tree.par bs) pos close c scope fine h = λ i. par_copy (same_branches bs 0 c scope fine h i)
    same_action (tree.replicated first second third from until b) pos close c scope fine h =
        λ i. par_copy (same_replicated (numbered_copy (branch_copy one b) c scope first.text) (numbered_copy (branch_copy other b) c scope first.text) (pos_of_branch b) scope
        (λ index number. λ j. in_scope_of scope (same_branch b (in_branch c index) (with_name scope first.text (a_constant number)) fine h j)) (until - from) 0 from i)
    same_action (tree.select cs) pos close c scope fine h = λ i. select_copy scope pos (same_cases cs c scope fine h i)
    same_action (tree.transaction is_master ss) pos close c scope fine h = λ i. transaction_copy c scope is_master pos close (same_statements ss c scope fine h i)

    pub same_maybe : (s : tree.Maybe) (c : Context) (scope : Scope) → c.functions ≡ fs → EachMaybe Holds s → maybe_copy one s c scope ≡ maybe_copy other s c scope
    same_maybe tree.absent c scope fine h = refl
    same_maybe (tree.present s) c scope fine h = same_statement s c scope fine h

    pub same_statements : (ss : tree.Statements) (c : Context) (scope : Scope) → c.functions ≡ fs → EachOf Holds ss → statements_copy one ss c scope ≡ statements_copy other ss c scope
    same_statements tree.no_more c scope fine h = refl
    same_statements (tree.more s ss) c scope fine h =
        let e = same_statement s c scope fine h.0 in
        λ i. joined (e i) (same_statements ss c (e i).scope fine h.1 i)

    pub same_branch : (b : tree.Branch) (c : Context) (scope : Scope) → c.functions ≡ fs → EachOne Holds b → branch_copy one b c scope ≡ branch_copy other b c scope
    same_branch (tree.branch place s) c scope fine h = same_statement s c scope fine h

    pub same_branches : (bs : tree.Branches) (index : ℕ) (c : Context) (scope : Scope) → c.functions ≡ fs → EachBranch Holds bs → branches_copy one bs index c scope ≡ branches_copy other bs index c scope
    same_branches tree.no_branch index c scope fine h = refl
    same_branches (tree.more_branches b bs) index c scope fine h =
        let e = same_branch b (in_branch c index) scope fine h.0 in
        λ i. and_branch (pos_of_branch b) (e i) (same_branches bs (index + 1) c (e i).scope fine h.1 i)

    pub same_cases : (cs : tree.Cases) (c : Context) (scope : Scope) → c.functions ≡ fs → EachCase Holds cs → cases_copy one cs c scope ≡ cases_copy other cs c scope
    same_cases tree.no_case c scope fine h = refl
    same_cases (tree.more_cases a cs) c scope fine h = same_case a c scope fine h.0 (same_cases cs c scope fine h.1)

    same_case : (a : tree.Case) (c : Context) (scope : Scope) {others others' : Cased} → c.functions ≡ fs → EachOneCase Holds a → others ≡ others' → case_copy one a c scope others ≡ case_copy other a c scope others'
    same_case (tree.case pos guard i ss) c scope fine h e =
        λ j. and_case c scope pos guard i (same_statements ss (in_case c pos) (case_scope c scope i) fine h j) (e j)

-- an instance of a function, where they agree on the calls in its body
pub same_function : (fs : List Function) (Holds : tree.Call → Type 0) (one other : CopiesCall) → Agree fs Holds one other → (c : Context) (scope : Scope) (own : Path) (f : Function) (args : List tree.Argument) → c.functions ≡ fs → EachCall Holds f.body → function_copy (statement_copy one) c scope own f args ≡ function_copy (statement_copy other) c scope own f args
same_function fs Holds one other agree c scope own f args fine h =
    λ i. in_scope_of scope (naming_none (joined (instance_of c f scope)
    (joined (result_copy c (path_at own f.head.name.pos) f.head.name.pos scope f.head.result)
    (joined (all_passed c scope own f.head.params args)
    (as_block c own (same_statement fs Holds one other agree f.body (in_function c own f) (all_passed c scope own f.head.params args).scope fine h i))))))

-- Depths.

-- calls that aren't followed, where there is no function to be called
none_copied : (k : ℕ) (c : Context) (scope : Scope) (pos : Pos) (args : List tree.Argument) (f : Option Function) → IsNone f → call_by (calls_copy zero) c scope pos args f ≡ call_by (calls_copy k) c scope pos args f
none_copied k c scope pos args None h = refl
none_copied k c scope pos args (Some f) h = absurd (true≢false h)

-- by the function that is called, where its own calls are copied alike at depths n and k
called_alike : (fs : List Function) (n k : ℕ) → Agree fs (GoesWithin fs n) (calls_copy n) (calls_copy k) → (c : Context) (scope : Scope) (pos : Pos) (args : List tree.Argument) (f : Option Function) → c.functions ≡ fs → EachInFunction (GoesWithin fs n) f → call_by (calls_copy (suc n)) c scope pos args f ≡ call_by (calls_copy (suc k)) c scope pos args f
called_alike fs n k agree c scope pos args None fine h = refl
called_alike fs n k agree c scope pos args (Some f) fine h =
    same_function fs (GoesWithin fs n) (calls_copy n) (calls_copy k) agree c scope (path_of_call c pos) f args fine h

-- calls that go within n are copied alike at each depth from n on
pub depths_agree : (fs : List Function) (n k : ℕ) → n ≤ k → Agree fs (GoesWithin fs n) (calls_copy n) (calls_copy k)
depths_agree fs zero k le = record {
  same = λ call h c scope fine. none_copied k c scope call.called.pos call.arguments (called c call) (subst (λ g. IsNone (function_named g call.called.text)) (sym fine) h);
}
depths_agree fs (suc n) zero le = absurd (omega arith)
depths_agree fs (suc n) (suc k) le = record {
  same = λ call h c scope fine. called_alike fs n k (depths_agree fs n k (omega arith)) c scope call.called.pos call.arguments (called c call) fine
      (subst (λ g. EachInFunction (GoesWithin fs n) (function_named g call.called.text)) (sym fine) h);
}
