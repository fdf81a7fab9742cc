-- A call's copy is its function's instance, in which calls are copied as they are around it.
use Rattle.std.proofs.Common.{◌≡◌, ℕ, zero, suc, List, [], ◌++◌, length, Some, None, IsNone, sym, subst, ◌∙◌, ap, true≢false, arith}
use Rattle.xc_tree.specs.Plain as tree
use Rattle.xc_kernel.specs.Paths.{path_at}
use Rattle.xc_kernel.specs.Scopes.{Scope}
use Rattle.xc_kernel.specs.Programs.{Function, function_named}
use Rattle.xc_kernel.specs.Context.{Context}
use Rattle.xc_kernel.specs.Calls.{called, call_by, call_copy, function_copy, path_of_call, result_copy}
use Rattle.xc_kernel.specs.Statements.{statement_copy, calls_copy}
use Rattle.xc_meaning.specs.Texts.Copied.{calls_in}
use Rattle.xc_meaning.specs.Texts.Called.{EachCall, EachInFunction, GoesWithin}
use Rattle.xc_meaning.proofs.Simulation.Depths.{depths_agree, same_function}
use Rattle.xc_meaning.proofs.Simulation.KernelItems.{call_code}

-- calls in programs of these functions go at most as deep as there are functions
pub record AllEnd (fs : List Function) : Type 0 where
  pub each : (call : tree.Call) → GoesWithin fs (length fs) call

body_within : (fs : List Function) (n : ℕ) (call : tree.Call) (f : Function) → function_named fs call.called.text ≡ Some f → GoesWithin fs (suc n) call → EachCall (GoesWithin fs n) f.body
body_within fs n call f e h = subst (EachInFunction (GoesWithin fs n)) e h

-- one level less serves the body as well
by_depth : (fs : List Function) (n : ℕ) (c : Context) (scope : Scope) (call : tree.Call) (f : Function) → c.functions ≡ fs → function_named fs call.called.text ≡ Some f → GoesWithin fs n call → call_by (calls_copy n) c scope call.called.pos call.arguments (Some f) ≡ function_copy (statement_copy (calls_copy n)) c scope (path_of_call c call.called.pos) f call.arguments
by_depth fs zero c scope call f fine e h = absurd (true≢false (subst IsNone e h))
by_depth fs (suc n) c scope call f fine e h =
    same_function fs (GoesWithin fs n) (calls_copy n) (calls_copy (suc n)) (depths_agree fs n (suc n) (omega arith)) c scope (path_of_call c call.called.pos) f call.arguments fine
    (body_within fs n call f e h)

pub call_is : (fs : List Function) → AllEnd fs → (c : Context) (scope : Scope) (call : tree.Call) (f : Function) → c.functions ≡ fs → called c call ≡ Some f → call_copy (calls_in c) c scope call ≡ function_copy (statement_copy (calls_in c)) c scope (path_of_call c call.called.pos) f call.arguments
call_is fs end c scope call f fine e =
    let named : function_named fs call.called.text ≡ Some f = subst (λ g. function_named g call.called.text ≡ Some f) fine e in
    let h : GoesWithin fs (length c.functions) call = subst (λ g. GoesWithin fs (length g) call) (sym fine) (end.each call) in
    ap (call_by (calls_in c) c scope call.called.pos call.arguments) e ∙ by_depth fs (length c.functions) c scope call f fine named h

-- the result's word becomes 0, and then the call's code
pub call_code_is : (fs : List Function) → AllEnd fs → (c : Context) (scope : Scope) (call : tree.Call) (f : Function) → c.functions ≡ fs → called c call ≡ Some f → (call_copy (calls_in c) c scope call).code ≡ (result_copy c (path_at (path_of_call c call.called.pos) f.head.name.pos) f.head.name.pos scope f.head.result).code ++ call_code c scope (path_of_call c call.called.pos) f call.arguments
call_code_is fs end c scope call f fine e = λ i. (call_is fs end c scope call f fine e i).code

pub no_call_code : (c : Context) (scope : Scope) (call : tree.Call) → called c call ≡ None → (call_copy (calls_in c) c scope call).code ≡ []
no_call_code c scope call e = λ i. (call_by (calls_in c) c scope call.called.pos call.arguments (e i)).code
