-- How many instances a copy makes: at most two for each statement that the program counts, and two of main's.
use Rattle.std.proofs.Common.{◌≡◌, ℕ, zero, suc, ◌+◌, ◌-◌, ◌*◌, ◌≤◌, Bool, true, false, List, [], ◌∷◌, length, Option, Some, None, nat_eq, arith, subst}
use Rattle.std.proofs.Math.Nat.{suc-mul}
use Rattle.std.proofs.lemmas.List.{length-append}
use Rattle.std.proofs.lemmas.List.Sums.{sum_by-cons}
use Rattle.xw_words.specs.declared.pos.Pos.{Pos}
use Rattle.xc_tree.specs.declared.tree.Param.{Param}
use Rattle.xc_tree.specs.declared.tree.ParamKind.{ParamKind}
use Rattle.xc_tree.specs.declared.tree.ParamKind.TheVariants.{Value, Ref, Array, End, Port}
use Rattle.xc_tree.specs.Plain as tree
use Rattle.xc_tree.specs.Symbols.{equals}
use Rattle.xc_kernel.specs.Paths.{Path, path_at}
use Rattle.xc_kernel.specs.Scopes.{Scope, Entity, a_word, an_array, an_element, a_channel, a_timer, a_port, a_constant, nothing_known, entity_of, with_name}
use Rattle.xc_kernel.specs.Programs.{Function, function_named, count_within}
use Rattle.xc_kernel.specs.Counts.{of_right, of_kind, of_declaration, of_statement, of_action, of_maybe, of_statements, of_branch, of_branches, of_cases, of_function, of_body}
use Rattle.xc_kernel.specs.Plain as kernel
use Rattle.xc_kernel.specs.Copy.{Copy, one_statement, joined, with_code}
use Rattle.xc_kernel.specs.Context.{Context, in_branch, in_loop, in_case, in_function, place, set_word, leave}
use Rattle.xc_kernel.specs.Parameters.{passed, by_element, form_by_reference, by_name, all_passed}
use Rattle.xc_kernel.specs.Calls.{CopiesCall, instance_of, result_copy, body_copy, function_copy, path_of_call, called, call_by, call_copy, value_of, right_copy}
use Rattle.xc_kernel.specs.Declarations.{kind_copy, declarations_copy}
use Rattle.xc_kernel.specs.Transfers.{target_copy, input_names}
use Rattle.xc_kernel.specs.Flow.{Cased, and_case, case_made, case_scope, for_parts, replicated, numbered_copy}
use Rattle.xc_kernel.specs.Statements.{assign_by, return_copy, statement_copy, action_copy, maybe_copy, statements_copy, branch_copy, branches_copy, cases_copy, calls_copy, pos_of_branch}
use Rattle.xc_kernel.specs.Ports.{core_of}
use Rattle.xc_inline.specs.Instances.{instance_count}
use Rattle.xc_kernel.specs.Roots.{branch_root, branch_roots, root_in_scope_of, numbered_roots, action_roots, block_roots, no_roots, in_block, roots_by, roots_of, block_has_placed}

joined_made : (a b : Copy) → instance_count (joined a b) ≡ instance_count a + instance_count b
joined_made a b =
    let v = length-append a.variables b.variables in
    let c = length-append a.channels b.channels in
    let t = length-append a.timers b.timers in
    let k = length-append a.blocks b.blocks in
    omega (arith, v, c, t, k)

-- a call makes at most twice as many as it counts
pub record CallsMakeFew (fs : List Function) (copies : CopiesCall) (of_call : tree.Call → ℕ) : Type 0 where
  pub few : (c : Context) (scope : Scope) (call : tree.Call) → c.functions ≡ fs → instance_count (call_copy copies c scope call) ≤ 2 * of_call call

target_few : (c : Context) (scope : Scope) (t : tree.Target) → instance_count (target_copy c scope t) ≤ 1
target_few c scope (tree.to e) = omega arith
target_few c scope tree.dropped = omega arith
target_few c scope (tree.fresh u name) = omega arith

module _ (fs : List Function) (copies : CopiesCall) (of_call : tree.Call → ℕ) (calls : CallsMakeFew fs copies of_call) where
  right_few : (r : tree.RightSide) (c : Context) (scope : Scope) → c.functions ≡ fs → instance_count (right_copy copies c scope r) ≤ 2 * of_right of_call r
  right_few (tree.value v) c scope e = omega arith
  right_few (tree.result call) c scope e = calls.few c scope call e

  assign_few : (c : Context) (scope : Scope) (to : tree.Expression) (symbol : ℕ) (pos : Pos) (r : tree.RightSide) (b : Bool) → c.functions ≡ fs
      → instance_count (assign_by copies c scope to symbol pos r b) ≤ 2 * (of_right of_call r + 1)
  assign_few c scope to symbol pos r true e =
      let h = right_few r c scope e in
      let j = joined_made (right_copy copies c scope r) (one_statement scope (kernel.set (place c scope to) (value_of c scope r))) in
      omega (arith, h, j)
  assign_few c scope to symbol pos r false e = omega arith

  return_few : (r : Option tree.RightSide) (c : Context) (scope : Scope) → c.functions ≡ fs → instance_count (return_copy copies c scope r) ≤ 2 * of_action of_call (tree.return_with r)
  return_few None c scope e = omega arith
  return_few (Some r) c scope e =
      let h = right_few r c scope e in
      let j = joined_made (right_copy copies c scope r) (joined (one_statement scope (set_word c c.result (value_of c scope r))) (one_statement scope (leave c c.returns))) in
      omega (arith, h, j)

  kind_few : (k : tree.Kind) (c : Context) (scope : Scope) (name : List ℕ) (pos : Pos) → c.functions ≡ fs → instance_count (kind_copy copies c scope name pos k) ≤ 2 * (of_kind of_call k + 1)
  kind_few (tree.word u None) c scope name pos e = omega arith
  kind_few (tree.word u (Some r)) c scope name pos e =
      let known = with_name scope name (a_word (path_at c.path pos) u) in
      let h = right_few r c known e in
      let j = joined_made (right_copy copies c known r) (one_statement known (set_word c (path_at c.path pos) (value_of c known r))) in
      omega (arith, h, j)
  kind_few (tree.array u n at) c scope name pos e = omega arith
  kind_few (tree.channel streaming) c scope name pos e = omega arith
  kind_few tree.timer c scope name pos e = omega arith

  pub declarations_few : (ds : List tree.Declaration) (c : Context) (scope : Scope) → c.functions ≡ fs → instance_count (declarations_copy copies c ds scope) ≤ 2 * of_action of_call (tree.declare ds)
  declarations_few [] c scope e = omega arith
  declarations_few (d ∷ ds) c scope e =
      let one = kind_copy copies c scope d.name.text d.name.pos d.kind in
      let h = kind_few d.kind c scope d.name.text d.name.pos e in
      let g = declarations_few ds c one.scope e in
      let j = joined_made one (declarations_copy copies c ds one.scope) in
      let s = sum_by-cons (of_declaration of_call) d ds in
      omega (arith, h, g, j, s)

  -- the parts of a case, and those behind it
  case_few : (c : Context) (scope : Scope) (pos : Pos) (guard : Option tree.Expression) (i : Option tree.Input) (body : Copy) (others : Cased) (n m : ℕ)
      → instance_count body ≤ 2 * n → instance_count others.made ≤ 2 * m → instance_count (and_case c scope pos guard i body others).made ≤ 2 * (n + 1 + m)
  case_few c scope pos guard None body others n m h g = let j = joined_made (case_made c pos body) others.made in omega (arith, h, g, j)
  case_few c scope pos guard (Some i) body others n m h g =
      let t = target_few c scope i.target in
      let j = joined_made (input_names c scope i) (case_made c pos body) in
      let k = joined_made (joined (input_names c scope i) (case_made c pos body)) others.made in
      omega (arith, h, g, t, j, k)

  -- copies of a branch that each make at most so many
  replicated_few : (copy : ℕ → ℕ → Copy) (pos : Pos) (scope : Scope) (n : ℕ) → ((index number : ℕ) → instance_count (copy index number) ≤ 2 * n)
      → (count index number : ℕ) → instance_count (replicated copy pos scope count index number).made ≤ 2 * (count * n)
  replicated_few copy pos scope n h zero index number = omega arith
  replicated_few copy pos scope n h (suc count) index number =
      let one = h index number in
      let others = replicated_few copy pos scope n h count (index + 1) (number + 1) in
      let j = joined_made (with_code (copy index number) []) (replicated copy pos scope count (index + 1) (number + 1)).made in
      let s = suc-mul count n in
      omega (arith, one, others, j, s)

  mutual
    pub statement_few : (s : tree.Statement) (c : Context) (scope : Scope) → c.functions ≡ fs → instance_count (statement_copy copies s c scope) ≤ 2 * of_statement of_call s
    statement_few (tree.statement action pos close own) c scope e = action_few action pos close c scope e

    action_few : (a : tree.Action) (pos close : Pos) (c : Context) (scope : Scope) → c.functions ≡ fs → instance_count (action_copy copies a pos close c scope) ≤ 2 * of_action of_call a
    action_few tree.empty pos close c scope e = omega arith
    action_few (tree.block ss) pos close c scope e = statements_few ss c scope e
    action_few (tree.declare ds) pos close c scope e = declarations_few ds c scope e
    action_few (tree.assign to symbol at r) pos close c scope e = assign_few c scope to symbol at r (nat_eq symbol equals) e
    action_few (tree.step to symbol) pos close c scope e = omega arith
    action_few (tree.perform r) pos close c scope e = right_few r c scope e
    action_few (tree.output o) pos close c scope e = omega arith
    action_few (tree.input i) pos close c scope e = let h = target_few c scope i.target in omega (arith, h)
    action_few (tree.if_then test a b) pos close c scope e =
        let first = statement_copy copies a c scope in
        let h = statement_few a c scope e in
        let g = maybe_few b c first.scope e in
        let j = joined_made first (maybe_copy copies b c first.scope) in
        omega (arith, h, g, j)
    action_few (tree.while_loop test body) pos close c scope e = let h = statement_few body (in_loop c pos) scope e in omega (arith, h)
    action_few (tree.do_while body test) pos close c scope e = let h = statement_few body (in_loop c pos) scope e in omega (arith, h)
    action_few (tree.for_loop first test next body) pos close c scope e =
        let begin = maybe_copy copies first c scope in
        let then = maybe_copy copies next c begin.scope in
        let held = statement_copy copies body (in_loop c pos) begin.scope in
        let f = maybe_few first c scope e in
        let n = maybe_few next c begin.scope e in
        let b = statement_few body (in_loop c pos) begin.scope e in
        let j = joined_made then held in
        let k = joined_made begin (for_parts c pos test (maybe_copy copies next c) (statement_copy copies body (in_loop c pos)) begin.scope) in
        omega (arith, f, n, b, j, k)
    action_few (tree.return_with r) pos close c scope e = return_few r c scope e
    action_few tree.break_out pos close c scope e = omega arith
    action_few tree.continue_on pos close c scope e = omega arith
    action_few (tree.par bs) pos close c scope e = let h = branches_few bs 0 c scope e in omega (arith, h)
    action_few (tree.replicated first second third from until b) pos close c scope e =
        let h = replicated_few (numbered_copy (branch_copy copies b) c scope first.text) (pos_of_branch b) scope (of_branch of_call b)
        (λ index number. branch_few b (in_branch c index) (with_name scope first.text (a_constant number)) e) (until - from) 0 from in
        omega (arith, h)
    action_few (tree.select cs) pos close c scope e = let h = cases_few cs c scope e in omega (arith, h)
    action_few (tree.transaction is_master ss) pos close c scope e = let h = statements_few ss c scope e in omega (arith, h)

    maybe_few : (m : tree.Maybe) (c : Context) (scope : Scope) → c.functions ≡ fs → instance_count (maybe_copy copies m c scope) ≤ 2 * of_maybe of_call m
    maybe_few tree.absent c scope e = omega arith
    maybe_few (tree.present s) c scope e = statement_few s c scope e

    statements_few : (ss : tree.Statements) (c : Context) (scope : Scope) → c.functions ≡ fs → instance_count (statements_copy copies ss c scope) ≤ 2 * of_statements of_call ss
    statements_few tree.no_more c scope e = omega arith
    statements_few (tree.more s ss) c scope e =
        let first = statement_copy copies s c scope in
        let h = statement_few s c scope e in
        let g = statements_few ss c first.scope e in
        let j = joined_made first (statements_copy copies ss c first.scope) in
        omega (arith, h, g, j)

    pub branch_few : (b : tree.Branch) (c : Context) (scope : Scope) → c.functions ≡ fs → instance_count (branch_copy copies b c scope) ≤ 2 * of_branch of_call b
    branch_few (tree.branch place s) c scope e = let h = statement_few s c scope e in omega (arith, h)

    branches_few : (bs : tree.Branches) (index : ℕ) (c : Context) (scope : Scope) → c.functions ≡ fs → instance_count (branches_copy copies bs index c scope).made ≤ 2 * of_branches of_call bs
    branches_few tree.no_branch index c scope e = omega arith
    branches_few (tree.more_branches b bs) index c scope e =
        let first = branch_copy copies b (in_branch c index) scope in
        let h = branch_few b (in_branch c index) scope e in
        let g = branches_few bs (index + 1) c first.scope e in
        let j = joined_made (with_code first []) (branches_copy copies bs (index + 1) c first.scope).made in
        omega (arith, h, g, j)

    cases_few : (cs : tree.Cases) (c : Context) (scope : Scope) → c.functions ≡ fs → instance_count (cases_copy copies cs c scope).made ≤ 2 * of_cases of_call cs
    cases_few tree.no_case c scope e = omega arith
    cases_few (tree.more_cases (tree.case pos guard i ss) cs) c scope e =
        case_few c scope pos guard i (statements_copy copies ss (in_case c pos) (case_scope c scope i)) (cases_copy copies cs c scope) (of_statements of_call ss) (of_cases of_call cs)
        (statements_few ss (in_case c pos) (case_scope c scope i) e) (cases_few cs c scope e)

-- a parameter has at most one variable

element_few : (c : Context) (scope : Scope) (own : Path) (pos : Pos) (i : tree.Expression) (at : Pos) (x : Entity) → length (by_element c scope own pos i at x).variables ≤ 1
element_few c scope own pos i at (a_word path u) = omega arith
element_few c scope own pos i at (an_array path n u) = omega arith
element_few c scope own pos i at (an_element array index u) = omega arith
element_few c scope own pos i at (a_channel path) = omega arith
element_few c scope own pos i at (a_timer path) = omega arith
element_few c scope own pos i at (a_port n) = omega arith
element_few c scope own pos i at (a_constant v) = omega arith
element_few c scope own pos i at nothing_known = omega arith

form_few : (c : Context) (scope : Scope) (own : Path) (pos at : Pos) (f : tree.Form) → length (form_by_reference c scope own pos at f).variables ≤ 1
form_few c scope own pos at (tree.number value u) = omega arith
form_few c scope own pos at (tree.name text) = omega arith
form_few c scope own pos at (tree.index text i) = element_few c scope own pos i at (entity_of scope text)
form_few c scope own pos at (tree.unary symbol a) = omega arith
form_few c scope own pos at (tree.binary symbol a b) = omega arith
form_few c scope own pos at (tree.choice test a b) = omega arith
form_few c scope own pos at (tree.cast u a) = omega arith

name_few : (scope : Scope) (e : tree.Expression) → length (by_name scope e).variables ≤ 1
name_few scope (tree.expression (tree.number value u) at) = omega arith
name_few scope (tree.expression (tree.name text) at) = omega arith
name_few scope (tree.expression (tree.index text i) at) = omega arith
name_few scope (tree.expression (tree.unary symbol a) at) = omega arith
name_few scope (tree.expression (tree.binary symbol a b) at) = omega arith
name_few scope (tree.expression (tree.choice test a b) at) = omega arith
name_few scope (tree.expression (tree.cast u a) at) = omega arith

passed_few : (c : Context) (scope : Scope) (own : Path) (pos : Pos) (k : ParamKind) (e : tree.Expression) → length (passed c scope own pos k e).variables ≤ 1
passed_few c scope own pos (Value u) e = omega arith
passed_few c scope own pos (Ref u) (tree.expression form at) = form_few c scope own pos at form
passed_few c scope own pos (Array u n) e = name_few scope e
passed_few c scope own pos (End is_streaming) e = name_few scope e
passed_few c scope own pos (Port dir) e = name_few scope e

parameters_few : (c : Context) (scope : Scope) (own : Path) (ps : List Param) (args : List tree.Argument) → instance_count (all_passed c scope own ps args) ≤ length ps
parameters_few c scope own [] args = omega arith
parameters_few c scope own (p ∷ ps) [] = omega arith
parameters_few c scope own (p ∷ ps) (a ∷ args) =
    let one = passed_few c scope own p.name.pos p.kind a.value in
    let h = parameters_few c scope own ps args in
    let j = length-append (passed c scope own p.name.pos p.kind a.value).variables (all_passed c scope own ps args).variables in
    omega (arith, one, h, j)

unhanded_few : (c : Context) (scope : Scope) (own : Path) (ps : List Param) → instance_count (all_passed c scope own ps []) ≤ 0
unhanded_few c scope own [] = omega arith
unhanded_few c scope own (p ∷ ps) = omega arith

result_few : (c : Context) (result : Path) (pos : Pos) (scope : Scope) (u : Option Bool) → instance_count (result_copy c result pos scope u) ≤ 1
result_few c result pos scope None = omega arith
result_few c result pos scope (Some u) = omega arith

-- a call of a function, whose own calls make few
function_few : (fs : List Function) (copies : CopiesCall) (of_call : tree.Call → ℕ) → CallsMakeFew fs copies of_call → (c : Context) (scope : Scope) (own : Path) (f : Function) (args : List tree.Argument) → c.functions ≡ fs
    → instance_count (function_copy (statement_copy copies) c scope own f args) ≤ 2 * of_function of_call (Some f)
function_few fs copies of_call calls c scope own f args e =
    let handed = all_passed c scope own f.head.params args in
    let body = body_copy (statement_copy copies) c own f handed.scope in
    let returned = result_copy c (path_at own f.head.name.pos) f.head.name.pos scope f.head.result in
    let r = result_few c (path_at own f.head.name.pos) f.head.name.pos scope f.head.result in
    let p = parameters_few c scope own f.head.params args in
    let b = statement_few fs copies of_call calls f.body (in_function c own f) handed.scope e in
    let j = joined_made handed body in
    let k = joined_made returned (joined handed body) in
    let l = joined_made (instance_of c f scope) (joined returned (joined handed body)) in
    omega (arith, r, p, b, j, k, l)

-- the call of a function, where there is one
some_few : (fs : List Function) (n : ℕ) → CallsMakeFew fs (calls_copy n) (count_within of_function fs n) → (c : Context) (scope : Scope) (pos : Pos) (args : List tree.Argument) (f : Option Function) → c.functions ≡ fs
    → instance_count (call_by (calls_copy (suc n)) c scope pos args f) ≤ 2 * of_function (count_within of_function fs n) f
some_few fs n calls c scope pos args None e = omega arith
some_few fs n calls c scope pos args (Some f) e = function_few fs (calls_copy n) (count_within of_function fs n) calls c scope (path_of_call c pos) f args e

none_few : (c : Context) (scope : Scope) (pos : Pos) (args : List tree.Argument) (f : Option Function) → instance_count (call_by (calls_copy zero) c scope pos args f) ≤ 0
none_few c scope pos args None = omega arith
none_few c scope pos args (Some f) = omega arith

-- calls make few, however deep they go
pub calls_few : (fs : List Function) (n : ℕ) → CallsMakeFew fs (calls_copy n) (count_within of_function fs n)
calls_few fs zero = record { few = λ c scope call e. none_few c scope call.called.pos call.arguments (called c call) }
calls_few fs (suc n) = record {
  few = λ c scope call e.
      subst (λ (g : List Function). instance_count (call_copy (calls_copy (suc n)) c scope call) ≤ 2 * of_function (count_within of_function fs n) (function_named g call.called.text)) e
      (some_few fs n (calls_few fs n) c scope call.called.pos call.arguments (called c call) e);
}

module _ (fs : List Function) (copies : CopiesCall) (of_call : tree.Call → ℕ) (calls : CallsMakeFew fs copies of_call) where
  root_few : (main : Pos) (b : tree.Branch) (c : Context) (scope : Scope) → c.functions ≡ fs → instance_count (branch_root copies main b c scope).made ≤ 2 * of_branch of_call b
  root_few main (tree.branch place s) c scope e = branch_few fs copies of_call calls (tree.branch place s) (record c { core = core_of scope place }) scope e

  roots_few : (main : Pos) (bs : tree.Branches) (index : ℕ) (c : Context) (scope : Scope) → c.functions ≡ fs → instance_count (branch_roots copies main bs index c scope).made ≤ 2 * of_branches of_call bs
  roots_few main tree.no_branch index c scope e = omega arith
  roots_few main (tree.more_branches b bs) index c scope e =
      let first = branch_root copies main b (in_branch c index) scope in
      let h = root_few main b (in_branch c index) scope e in
      let g = roots_few main bs (index + 1) c first.made.scope e in
      let j = joined_made first.made (branch_roots copies main bs (index + 1) c first.made.scope).made in
      omega (arith, h, g, j)

  numbered_few : (main : Pos) (b : tree.Branch) (name : List ℕ) (c : Context) (scope : Scope) → c.functions ≡ fs
      → (count index number : ℕ) → instance_count (numbered_roots copies main b name c scope count index number).made ≤ 2 * (count * of_branch of_call b)
  numbered_few main b name c scope e zero index number = omega arith
  numbered_few main b name c scope e (suc count) index number =
      let first = root_in_scope_of copies scope (branch_root copies main b (in_branch c index) (with_name scope name (a_constant number))) in
      let h = root_few main b (in_branch c index) (with_name scope name (a_constant number)) e in
      let g = numbered_few main b name c scope e count (index + 1) (number + 1) in
      let j = joined_made first.made (numbered_roots copies main b name c scope count (index + 1) (number + 1)).made in
      let s = suc-mul count (of_branch of_call b) in
      omega (arith, h, g, j, s)

  action_roots_few : (main : Pos) (a : tree.Action) (c : Context) (scope : Scope) → c.functions ≡ fs → instance_count (action_roots copies main a c scope).made ≤ 2 * of_action of_call a
  action_roots_few main tree.empty c scope e = omega arith
  action_roots_few main (tree.block ss) c scope e = omega arith
  action_roots_few main (tree.declare ds) c scope e = declarations_few fs copies of_call calls ds c scope e
  action_roots_few main (tree.assign to symbol at r) c scope e = omega arith
  action_roots_few main (tree.step to symbol) c scope e = omega arith
  action_roots_few main (tree.perform r) c scope e = omega arith
  action_roots_few main (tree.output o) c scope e = omega arith
  action_roots_few main (tree.input i) c scope e = omega arith
  action_roots_few main (tree.if_then test a b) c scope e = omega arith
  action_roots_few main (tree.while_loop test body) c scope e = omega arith
  action_roots_few main (tree.do_while body test) c scope e = omega arith
  action_roots_few main (tree.for_loop first test next body) c scope e = omega arith
  action_roots_few main (tree.return_with r) c scope e = omega arith
  action_roots_few main tree.break_out c scope e = omega arith
  action_roots_few main tree.continue_on c scope e = omega arith
  action_roots_few main (tree.par bs) c scope e = let h = roots_few main bs 0 c scope e in omega (arith, h)
  action_roots_few main (tree.replicated first second third from until b) c scope e =
      let h = numbered_few main b first.text c scope e (until - from) 0 from in omega (arith, h)
  action_roots_few main (tree.select cs) c scope e = omega arith
  action_roots_few main (tree.transaction is_master ss) c scope e = omega arith

  block_roots_few : (main : Pos) (ss : tree.Statements) (c : Context) (scope : Scope) → c.functions ≡ fs → instance_count (block_roots copies main ss c scope).made ≤ 2 * of_statements of_call ss
  block_roots_few main tree.no_more c scope e = omega arith
  block_roots_few main (tree.more (tree.statement action pos close own) ss) c scope e =
      let first = action_roots copies main action c scope in
      let h = action_roots_few main action c scope e in
      let g = block_roots_few main ss c first.made.scope e in
      let j = joined_made first.made (block_roots copies main ss c first.made.scope).made in
      omega (arith, h, g, j)

  -- those of main's block
  body_roots_few : (main : Pos) (s : tree.Statement) (c : Context) (scope : Scope) → c.functions ≡ fs → instance_count (block_roots copies main (in_block s) c scope).made ≤ 2 * of_statement of_call s
  body_roots_few main (tree.statement (tree.block ss) pos close own) c scope e = block_roots_few main ss c scope e
  body_roots_few main (tree.statement tree.empty pos close own) c scope e = omega arith
  body_roots_few main (tree.statement (tree.declare ds) pos close own) c scope e = omega arith
  body_roots_few main (tree.statement (tree.assign to symbol at r) pos close own) c scope e = omega arith
  body_roots_few main (tree.statement (tree.step to symbol) pos close own) c scope e = omega arith
  body_roots_few main (tree.statement (tree.perform r) pos close own) c scope e = omega arith
  body_roots_few main (tree.statement (tree.output o) pos close own) c scope e = omega arith
  body_roots_few main (tree.statement (tree.input i) pos close own) c scope e = omega arith
  body_roots_few main (tree.statement (tree.if_then test a b) pos close own) c scope e = omega arith
  body_roots_few main (tree.statement (tree.while_loop test body) pos close own) c scope e = omega arith
  body_roots_few main (tree.statement (tree.do_while body test) pos close own) c scope e = omega arith
  body_roots_few main (tree.statement (tree.for_loop first test next body) pos close own) c scope e = omega arith
  body_roots_few main (tree.statement (tree.return_with r) pos close own) c scope e = omega arith
  body_roots_few main (tree.statement tree.break_out pos close own) c scope e = omega arith
  body_roots_few main (tree.statement tree.continue_on pos close own) c scope e = omega arith
  body_roots_few main (tree.statement (tree.par bs) pos close own) c scope e = omega arith
  body_roots_few main (tree.statement (tree.replicated first second third from until b) pos close own) c scope e = omega arith
  body_roots_few main (tree.statement (tree.select cs) pos close own) c scope e = omega arith
  body_roots_few main (tree.statement (tree.transaction is_master ss) pos close own) c scope e = omega arith

  by_roots_few : (placed : Bool) (f : Function) (c : Context) → c.functions ≡ fs → instance_count (roots_by copies placed f c).made ≤ 2 * of_statement of_call f.body + 2
  by_roots_few true f c e =
      let h = body_roots_few f.head.name.pos f.body c c.ports e in
      let j = joined_made (no_roots (instance_of c f c.ports)).made (block_roots copies f.head.name.pos (in_block f.body) c c.ports).made in
      omega (arith, h, j)
  by_roots_few false f c e =
      let handed = all_passed c c.ports [] f.head.params [] in
      let body = body_copy (statement_copy copies) c [] f handed.scope in
      let returned = result_copy c (path_at [] f.head.name.pos) f.head.name.pos c.ports f.head.result in
      let r = result_few c (path_at [] f.head.name.pos) f.head.name.pos c.ports f.head.result in
      let p = unhanded_few c c.ports [] f.head.params in
      let b = statement_few fs copies of_call calls f.body (in_function c [] f) handed.scope e in
      let j = joined_made handed body in
      let k = joined_made returned (joined handed body) in
      let l = joined_made (instance_of c f c.ports) (joined returned (joined handed body)) in
      omega (arith, r, p, b, j, k, l)

  -- the instances of a program
  pub all_roots_few : (f : Option Function) (c : Context) → c.functions ≡ fs → instance_count (roots_of copies f c).made ≤ 2 * of_body of_call f + 2
  all_roots_few None c e = omega arith
  all_roots_few (Some f) c e = by_roots_few (block_has_placed (in_block f.body)) f c e
