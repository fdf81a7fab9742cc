-- How many parts the code of a copy has, by what the program counts: three times as many are at most ten for each node of an
-- expression and ten for each statement, and three for each word that is counted.
use Rattle.std.proofs.Common.{◌≡◌, ℕ, zero, suc, ◌+◌, ◌-◌, ◌*◌, ◌≤◌, Bool, true, false, List, [], ◌∷◌, ◌++◌, length, sum_by, slice_get, Option, Some, None, nat_eq, option_map, refl, ap, subst, arith}
use Rattle.std.proofs.Math.Nat.{suc-mul}
use Rattle.std.proofs.lemmas.Bool.{eq-eqb}
use Rattle.std.proofs.lemmas.List.Sums.{sum_by-cons, sum_by-append}
use Rattle.xw_words.specs.declared.pos.Pos.{Pos}
use Rattle.xc_tree.specs.declared.tree.Param.{Param}
use Rattle.xc_tree.specs.declared.tree.ParamKind.{ParamKind}
use Rattle.xc_tree.specs.declared.tree.ParamKind.TheVariants.{Value, Ref, Array, End, Port}
use Rattle.xc_tree.specs.Depth.{if_some}
use Rattle.xc_tree.specs.Plain as tree
use Rattle.xc_tree.specs.Symbols.{equals}
use Rattle.xc_kernel.specs.declared.kernel.Var.{Var}
use Rattle.xc_kernel.specs.Plain as kernel
use Rattle.xc_kernel.specs.Paths.{Path, path_at}
use Rattle.xc_kernel.specs.Numbering.{Numbering, variable_number}
use Rattle.xc_kernel.specs.Scopes.{Scope, Entity, a_word, an_array, an_element, a_channel, a_timer, a_port, a_constant, nothing_known, entity_of, with_name}
use Rattle.xc_kernel.specs.Programs.{Function, function_named, count_within}
use Rattle.xc_kernel.specs.Expressions.{expression_in, kernel_place, place_of_entity, word_of_entity}
use Rattle.xc_kernel.specs.Counts as counts
use Rattle.xc_kernel.specs.Nodes as nodes
use Rattle.xc_kernel.specs.Copy.{Copy, one_statement, joined}
use Rattle.xc_kernel.specs.Context.{Context, in_branch, in_loop, in_case, in_function, expression, place, set_word, set_zero, leave}
use Rattle.xc_kernel.specs.Parameters.{passed, by_element, form_by_reference, by_name, all_passed}
use Rattle.xc_kernel.specs.Calls.{CopiesCall, result_copy, body_copy, function_copy, path_of_call, called, call_by, call_copy, value_of, right_copy}
use Rattle.xc_kernel.specs.Declarations.{kind_copy, declarations_copy}
use Rattle.xc_kernel.specs.Transfers.{time_of, stamp_of, condition_of, output_of, target_of, behind_target, input_of, input_names}
use Rattle.xc_kernel.specs.Flow.{Cased, and_case, case_scope, for_parts, replicated, numbered_copy, test_or_true}
use Rattle.xc_kernel.specs.Statements.{assign_by, return_copy, statement_copy, action_copy, maybe_copy, statements_copy, branch_copy, branches_copy, cases_copy, calls_copy, pos_of_branch}
use Rattle.xc_wellformed.specs.Parts as parts
use Rattle.xc_wellformed.specs.Parts.{words_of}
use Rattle.xc_disjoint.specs.Cores.{if_so, on_core}
use Rattle.xc_disjoint.specs.Needs.{words_of_variable}
use Rattle.xc_wellformed.proofs.Walk.Arguments.{AllIn, split}

-- Expressions and places: three times the parts are at most five for each node, and one.

entity_parts : (num : Numbering) (pos : Pos) (x : Entity) → parts.of_expression (word_of_entity num pos x) ≤ 2
entity_parts num pos (a_word path u) = omega arith
entity_parts num pos (an_array path l u) = omega arith
entity_parts num pos (an_element a i u) = omega arith
entity_parts num pos (a_channel path) = omega arith
entity_parts num pos (a_timer path) = omega arith
entity_parts num pos (a_port p) = omega arith
entity_parts num pos (a_constant v) = omega arith
entity_parts num pos nothing_known = omega arith

entity_place_parts : (num : Numbering) (pos : Pos) (x : Entity) → parts.of_place (place_of_entity num pos x) ≤ 2
entity_place_parts num pos (a_word path u) = omega arith
entity_place_parts num pos (an_array path l u) = omega arith
entity_place_parts num pos (an_element a i u) = omega arith
entity_place_parts num pos (a_channel path) = omega arith
entity_place_parts num pos (a_timer path) = omega arith
entity_place_parts num pos (a_port p) = omega arith
entity_place_parts num pos (a_constant v) = omega arith
entity_place_parts num pos nothing_known = omega arith

module _ (num : Numbering) (scope : Scope) where
  pub expression_few : (e : tree.Expression) → 3 * parts.of_expression (expression_in num scope e) ≤ 5 * nodes.of_expression e + 1
  expression_few (tree.expression (tree.number v u) pos) = omega arith
  expression_few (tree.expression (tree.name t) pos) = let h = entity_parts num pos (entity_of scope t) in omega (arith, h)
  expression_few (tree.expression (tree.index t i) pos) = let h = expression_few i in omega (arith, h)
  expression_few (tree.expression (tree.unary o a) pos) = let h = expression_few a in omega (arith, h)
  expression_few (tree.expression (tree.binary o a b) pos) = let h = expression_few a in let g = expression_few b in omega (arith, h, g)
  expression_few (tree.expression (tree.choice q a b) pos) = let k = expression_few q in let h = expression_few a in let g = expression_few b in omega (arith, k, h, g)
  expression_few (tree.expression (tree.cast u a) pos) = let h = expression_few a in omega (arith, h)

  pub place_few : (e : tree.Expression) → 3 * parts.of_place (kernel_place num scope e) ≤ 5 * nodes.of_expression e + 1
  place_few (tree.expression (tree.number v u) pos) = omega arith
  place_few (tree.expression (tree.name t) pos) = let h = entity_place_parts num pos (entity_of scope t) in omega (arith, h)
  place_few (tree.expression (tree.index t i) pos) = let h = expression_few i in omega (arith, h)
  place_few (tree.expression (tree.unary o a) pos) = omega arith
  place_few (tree.expression (tree.binary o a b) pos) = omega arith
  place_few (tree.expression (tree.choice q a b) pos) = omega arith
  place_few (tree.expression (tree.cast u a) pos) = omega arith

maybe_few : (c : Context) (scope : Scope) (e : Option tree.Expression) → 3 * parts.of_maybe (option_map (expression c scope) e) ≤ 5 * if_some nodes.of_expression e + 1
maybe_few c scope None = omega arith
maybe_few c scope (Some e) = expression_few c.numbering scope e

test_few : (c : Context) (scope : Scope) (e : Option tree.Expression) → 3 * parts.of_expression (test_or_true (option_map (expression c scope) e)) ≤ 5 * if_some nodes.of_expression e + 3
test_few c scope None = omega arith
test_few c scope (Some e) = let h = expression_few c.numbering scope e in omega (arith, h)

time_few : (c : Context) (scope : Scope) (t : Option tree.Timing) → 3 * parts.of_maybe (option_map (time_of c scope) t) ≤ 5 * if_some nodes.of_timing t + 1
time_few c scope None = omega arith
time_few c scope (Some t) = expression_few c.numbering scope t.value

stamp_few : (c : Context) (scope : Scope) (t : Option tree.Timing) → 3 * parts.of_some_place (option_map (stamp_of c scope) t) ≤ 5 * if_some nodes.of_timing t + 1
stamp_few c scope None = omega arith
stamp_few c scope (Some t) = place_few c.numbering scope t.value

condition_few : (c : Context) (scope : Scope) (w : Option tree.Condition) → 3 * parts.of_condition (option_map (condition_of c scope) w) ≤ 5 * if_some nodes.of_condition w + 1
condition_few c scope None = omega arith
condition_few c scope (Some w) = expression_few c.numbering scope w.value

target_few : (c : Context) (scope : Scope) (t : tree.Target) → 3 * parts.of_some_place (target_of c scope t) ≤ 5 * nodes.of_target t + 3
target_few c scope (tree.to e) = let h = place_few c.numbering scope e in omega (arith, h)
target_few c scope tree.dropped = omega arith
target_few c scope (tree.fresh u name) = omega arith

output_few : (c : Context) (scope : Scope) (o : tree.Output) → 3 * parts.of_output (output_of c scope o) ≤ 5 * nodes.of_output o + 3
output_few c scope o =
    let t = time_few c scope o.time in
    let v = expression_few c.numbering scope o.value in
    let s = stamp_few c scope o.stamp in
    omega (arith, t, v, s)

input_few : (c : Context) (scope : Scope) (i : tree.Input) → 3 * parts.of_input (input_of c scope i) ≤ 5 * nodes.of_input i + 9
input_few c scope i =
    let t = time_few c scope i.time in
    let w = condition_few c scope i.condition in
    let d = target_few c scope i.target in
    let s = stamp_few c (behind_target c scope i) i.stamp in
    omega (arith, t, w, d, s)

-- Words.

same_core : (core n : ℕ) → on_core core core n ≡ n
same_core core n = ap (λ (b : Bool). if_so b n) (eq-eqb core core refl)

abbrev pub words_on : ℕ → List Var → ℕ
words_on core vs = sum_by (words_of_variable core) vs

pub words_joined : (core : ℕ) (a b : List Var) → words_on core (a ++ b) ≡ words_on core a + words_on core b
words_joined core a b = sum_by-append (words_of_variable core) a b

-- by the kernel's variables
module _ (vs : List Var) where
  abbrev pub code_parts : List kernel.Statement → ℕ
  code_parts xs = parts.of_statements vs (kernel.statements xs)

  code_joined : (xs ys : List kernel.Statement) → code_parts (xs ++ ys) ≡ code_parts xs + code_parts ys
  code_joined [] ys = omega arith
  code_joined (x ∷ xs) ys = let h = code_joined xs ys in omega (arith, h)

  -- the variables of a copy have their words in the kernel's list
  abbrev Listed : Numbering → Var → Type 0
  Listed num v = words_of (slice_get vs (variable_number num v.path)) ≡ v.words

  abbrev pub AllListed : Numbering → Copy → Type 0
  AllListed num copy = AllIn (Listed num) copy.variables

  -- a copy on a core has few parts, for so many nodes and statements
  abbrev pub IsFew : Copy → (core n s : ℕ) → Type 0
  IsFew copy core n s = 3 * code_parts copy.code ≤ 10 * n + 10 * s + 3 * words_on core copy.variables

  few_joined : (a b : Copy) (core n m s t : ℕ) → IsFew a core n s → IsFew b core m t → IsFew (joined a b) core (n + m) (s + t)
  few_joined a b core n m s t h g =
      let c = code_joined a.code b.code in
      let w = words_joined core a.variables b.variables in
      omega (arith, h, g, c, w)

  -- the copy of a call has few
  pub record CallsFew (fs : List Function) (copies : CopiesCall) (nodes_of_call statements_of_call : tree.Call → ℕ) : Type 0 where
    pub few : (c : Context) (scope : Scope) (call : tree.Call) → c.functions ≡ fs → AllListed c.numbering (call_copy copies c scope call) → IsFew (call_copy copies c scope call) c.core (nodes.of_right nodes_of_call (tree.result call)) (statements_of_call call)

  module _ (fs : List Function) (copies : CopiesCall) (N S : tree.Call → ℕ) (calls : CallsFew fs copies N S) where
    right_few : (r : tree.RightSide) (c : Context) (scope : Scope) → c.functions ≡ fs → AllListed c.numbering (right_copy copies c scope r) → IsFew (right_copy copies c scope r) c.core (nodes.of_right N r) (counts.of_right S r)
    right_few (tree.value e) c scope k m = omega arith
    right_few (tree.result call) c scope k m = calls.few c scope call k m

    -- what stands for a right side once its call is done
    value_few : (r : tree.RightSide) (c : Context) (scope : Scope) → 3 * parts.of_expression (value_of c scope r) ≤ 5 * nodes.of_right N r + 3
    value_few (tree.value e) c scope = let h = expression_few c.numbering scope e in omega (arith, h)
    value_few (tree.result call) c scope = omega arith

    -- with the call before it
    right_and_value : (r : tree.RightSide) (c : Context) (scope : Scope) → c.functions ≡ fs → AllListed c.numbering (right_copy copies c scope r) →
        3 * code_parts (right_copy copies c scope r).code + 3 * parts.of_expression (value_of c scope r) ≤ 10 * nodes.of_right N r + 10 * counts.of_right S r + 3 + 3 * words_on c.core (right_copy copies c scope r).variables
    right_and_value (tree.value e) c scope k m = let h = expression_few c.numbering scope e in omega (arith, h)
    right_and_value (tree.result call) c scope k m = let h = calls.few c scope call k m in omega (arith, h)

    assign_few : (c : Context) (scope : Scope) (to : tree.Expression) (symbol : ℕ) (at : Pos) (r : tree.RightSide) (b : Bool) → c.functions ≡ fs → AllListed c.numbering (assign_by copies c scope to symbol at r b)
        → IsFew (assign_by copies c scope to symbol at r b) c.core (nodes.of_expression to + nodes.of_right N r) (counts.of_right S r + 1)
    assign_few c scope to symbol at r true k m =
        let first = right_copy copies c scope r in
        let then = one_statement scope (kernel.set (place c scope to) (value_of c scope r)) in
        let l = split (Listed c.numbering) first.variables then.variables m in
        let h = right_and_value r c scope k l.0 in
        let p = place_few c.numbering scope to in
        let j = code_joined first.code then.code in
        let w = words_joined c.core first.variables then.variables in
        omega (arith, h, p, j, w)
    assign_few c scope to symbol at r false k m =
        let h = value_few r c scope in
        let p = place_few c.numbering scope to in
        let q = expression_few c.numbering scope to in
        omega (arith, h, p, q)

    return_few : (r : Option tree.RightSide) (c : Context) (scope : Scope) → c.functions ≡ fs → AllListed c.numbering (return_copy copies c scope r) → IsFew (return_copy copies c scope r) c.core (if_some (nodes.of_right N) r) (if_some (counts.of_right S) r + 1)
    return_few None c scope k m = omega arith
    return_few (Some r) c scope k m =
        let first = right_copy copies c scope r in
        let then = joined (one_statement scope (set_word c c.result (value_of c scope r))) (one_statement scope (leave c c.returns)) in
        let l = split (Listed c.numbering) first.variables then.variables m in
        let h = right_and_value r c scope k l.0 in
        let j = code_joined first.code then.code in
        let w = words_joined c.core first.variables then.variables in
        omega (arith, h, j, w)

    kind_few : (kind : tree.Kind) (c : Context) (scope : Scope) (name : List ℕ) (pos : Pos) → c.functions ≡ fs → AllListed c.numbering (kind_copy copies c scope name pos kind)
        → IsFew (kind_copy copies c scope name pos kind) c.core (nodes.of_kind N kind) (counts.of_kind S kind + 1)
    kind_few (tree.word u None) c scope name pos k m = let l = m.0 in omega (arith, l)
    kind_few (tree.word u (Some r)) c scope name pos k m =
        let known = with_name scope name (a_word (path_at c.path pos) u) in
        let first = right_copy copies c known r in
        let then = one_statement known (set_word c (path_at c.path pos) (value_of c known r)) in
        let l = split (Listed c.numbering) first.variables then.variables m.1 in
        let h = right_and_value r c known k l.0 in
        let j = code_joined first.code then.code in
        let w = words_joined c.core first.variables then.variables in
        let s = sum_by-cons (words_of_variable c.core) (Rattle.xc_kernel.specs.Context.word_variable c true (path_at c.path pos) pos) (first.variables ++ then.variables) in
        omega (arith, h, j, w, s)
    kind_few (tree.array u n at) c scope name pos k m =
        let v = Rattle.xc_kernel.specs.Context.array_variable c n (path_at c.path pos) pos in
        let l = m.0 in
        let s = sum_by-cons (words_of_variable c.core) v [] in
        let o = same_core c.core n in
        omega (arith, l, s, o)
    kind_few (tree.channel streaming) c scope name pos k m = omega arith
    kind_few tree.timer c scope name pos k m = omega arith

    pub declarations_few : (ds : List tree.Declaration) (c : Context) (scope : Scope) → c.functions ≡ fs → AllListed c.numbering (declarations_copy copies c ds scope)
        → IsFew (declarations_copy copies c ds scope) c.core (sum_by (nodes.of_declaration N) ds) (sum_by (counts.of_declaration S) ds)
    declarations_few [] c scope k m = omega arith
    declarations_few (d ∷ ds) c scope k m =
        let one = kind_copy copies c scope d.name.text d.name.pos d.kind in
        let others = declarations_copy copies c ds one.scope in
        let l = split (Listed c.numbering) one.variables others.variables m in
        let h = kind_few d.kind c scope d.name.text d.name.pos k l.0 in
        let g = declarations_few ds c one.scope k l.1 in
        let j = few_joined one others c.core (nodes.of_declaration N d) (sum_by (nodes.of_declaration N) ds) (counts.of_declaration S d) (sum_by (counts.of_declaration S) ds) h g in
        let n = sum_by-cons (nodes.of_declaration N) d ds in
        let s = sum_by-cons (counts.of_declaration S) d ds in
        omega (arith, j, n, s)

    -- Cases.
    abbrev CasesFew : Cased → (core n s : ℕ) → Type 0
    CasesFew cs core n s = 3 * parts.of_cases vs cs.cases + 3 * parts.of_default vs cs.otherwise ≤ 10 * n + 10 * s + 3 * words_on core cs.made.variables

    case_few : (c : Context) (scope : Scope) (pos : Pos) (guard : Option tree.Expression) (i : Option tree.Input) (body : Copy) (others : Cased) (n m s t : ℕ)
        → IsFew body c.core n s → CasesFew others c.core m t → CasesFew (and_case c scope pos guard i body others) c.core (if_some nodes.of_expression guard + if_some nodes.of_input i + n + m) (s + 1 + t)
    case_few c scope pos guard None body others n m s t h g =
        let w = words_joined c.core body.variables others.made.variables in
        omega (arith, h, g, w)
    case_few c scope pos guard (Some i) body others n m s t h g =
        let e = maybe_few c scope guard in
        let d = input_few c scope i in
        let own = (input_names c scope i).variables in
        let w = words_joined c.core own body.variables in
        let v = words_joined c.core (own ++ body.variables) others.made.variables in
        omega (arith, h, g, e, d, w, v)

    -- copies of a branch that each have few
    replicated_few : (copy : ℕ → ℕ → Copy) (pos : Pos) (scope : Scope) (num : Numbering) (core n s : ℕ) → ((index number : ℕ) → AllListed num (copy index number) → 3 * code_parts (copy index number).code + 3 ≤ 10 * n + 10 * s + 3 * words_on core (copy index number).variables)
        → (count index number : ℕ) → AllListed num (replicated copy pos scope count index number).made → 3 * parts.of_branches vs (replicated copy pos scope count index number).branches ≤ 10 * (count * n) + 10 * (count * s) + 3 * words_on core (replicated copy pos scope count index number).made.variables
    replicated_few copy pos scope num core n s h zero index number m = omega arith
    replicated_few copy pos scope num core n s h (suc count) index number m =
        let others = replicated copy pos scope count (index + 1) (number + 1) in
        let l = split (Listed num) (copy index number).variables others.made.variables m in
        let one = h index number l.0 in
        let rest = replicated_few copy pos scope num core n s h count (index + 1) (number + 1) l.1 in
        let w = words_joined core (copy index number).variables others.made.variables in
        let a = suc-mul count n in
        let b = suc-mul count s in
        omega (arith, one, rest, w, a, b)

    mutual
      pub statement_few : (s : tree.Statement) (c : Context) (scope : Scope) → c.functions ≡ fs → AllListed c.numbering (statement_copy copies s c scope) → IsFew (statement_copy copies s c scope) c.core (nodes.of_statement N s) (counts.of_statement S s)
      statement_few (tree.statement action pos close own) c scope k m = action_few action pos close c scope k m

      action_few : (a : tree.Action) (pos close : Pos) (c : Context) (scope : Scope) → c.functions ≡ fs → AllListed c.numbering (action_copy copies a pos close c scope) → IsFew (action_copy copies a pos close c scope) c.core (nodes.of_action N a) (counts.of_action S a)
      action_few tree.empty pos close c scope k m = omega arith
      action_few (tree.block ss) pos close c scope k m = statements_few ss c scope k m
      action_few (tree.declare ds) pos close c scope k m = declarations_few ds c scope k m
      action_few (tree.assign to symbol at r) pos close c scope k m = assign_few c scope to symbol at r (nat_eq symbol equals) k m
      action_few (tree.step to symbol) pos close c scope k m =
          let p = place_few c.numbering scope to in
          let q = expression_few c.numbering scope to in
          omega (arith, p, q)
      action_few (tree.perform r) pos close c scope k m = right_few r c scope k m
      action_few (tree.output o) pos close c scope k m = let h = output_few c scope o in omega (arith, h)
      action_few (tree.input i) pos close c scope k m = let h = input_few c scope i in omega (arith, h)
      action_few (tree.if_then test a b) pos close c scope k m =
          let first = statement_copy copies a c scope in
          let second = maybe_copy copies b c first.scope in
          let l = split (Listed c.numbering) first.variables second.variables m in
          let e = expression_few c.numbering scope test in
          let h = statement_few a c scope k l.0 in
          let g = maybe_statement_few b c first.scope k l.1 in
          let w = words_joined c.core first.variables second.variables in
          omega (arith, e, h, g, w)
      action_few (tree.while_loop test body) pos close c scope k m =
          let e = expression_few c.numbering scope test in
          let h = statement_few body (in_loop c pos) scope k m in
          omega (arith, e, h)
      action_few (tree.do_while body test) pos close c scope k m =
          let held = statement_copy copies body (in_loop c pos) scope in
          let e = expression_few c.numbering held.scope test in
          let h = statement_few body (in_loop c pos) scope k m in
          omega (arith, e, h)
      action_few (tree.for_loop first test next body) pos close c scope k m =
          let begin = maybe_copy copies first c scope in
          let then = maybe_copy copies next c begin.scope in
          let held = statement_copy copies body (in_loop c pos) begin.scope in
          let rest = for_parts c pos test (maybe_copy copies next c) (statement_copy copies body (in_loop c pos)) begin.scope in
          let l = split (Listed c.numbering) begin.variables (then.variables ++ held.variables) m in
          let l2 = split (Listed c.numbering) then.variables held.variables l.1 in
          let e = test_few c begin.scope test in
          let f = maybe_statement_few first c scope k l.0 in
          let n = maybe_statement_few next c begin.scope k l2.0 in
          let b = statement_few body (in_loop c pos) begin.scope k l2.1 in
          let j = code_joined begin.code rest.code in
          let v = words_joined c.core then.variables held.variables in
          let w = words_joined c.core begin.variables (then.variables ++ held.variables) in
          omega (arith, e, f, n, b, j, v, w)
      action_few (tree.return_with r) pos close c scope k m = return_few r c scope k m
      action_few tree.break_out pos close c scope k m = omega arith
      action_few tree.continue_on pos close c scope k m = omega arith
      action_few (tree.par bs) pos close c scope k m = let h = branches_few bs 0 c scope k m in omega (arith, h)
      action_few (tree.replicated first second third from until b) pos close c scope k m =
          let h = replicated_few (numbered_copy (branch_copy copies b) c scope first.text) (pos_of_branch b) scope c.numbering c.core (nodes.of_branch N b) (counts.of_branch S b)
          (λ index number l. branch_few b (in_branch c index) (with_name scope first.text (a_constant number)) k l) (until - from) 0 from m in
          omega (arith, h)
      action_few (tree.select cs) pos close c scope k m = let h = cases_few cs c scope k m in omega (arith, h)
      action_few (tree.transaction is_master ss) pos close c scope k m = let h = statements_few ss c scope k m in omega (arith, h)

      maybe_statement_few : (x : tree.Maybe) (c : Context) (scope : Scope) → c.functions ≡ fs → AllListed c.numbering (maybe_copy copies x c scope) → IsFew (maybe_copy copies x c scope) c.core (nodes.of_maybe N x) (counts.of_maybe S x)
      maybe_statement_few tree.absent c scope k m = omega arith
      maybe_statement_few (tree.present s) c scope k m = statement_few s c scope k m

      statements_few : (ss : tree.Statements) (c : Context) (scope : Scope) → c.functions ≡ fs → AllListed c.numbering (statements_copy copies ss c scope) → IsFew (statements_copy copies ss c scope) c.core (nodes.of_statements N ss) (counts.of_statements S ss)
      statements_few tree.no_more c scope k m = omega arith
      statements_few (tree.more s ss) c scope k m =
          let first = statement_copy copies s c scope in
          let others = statements_copy copies ss c first.scope in
          let l = split (Listed c.numbering) first.variables others.variables m in
          few_joined first others c.core (nodes.of_statement N s) (nodes.of_statements N ss) (counts.of_statement S s) (counts.of_statements S ss)
          (statement_few s c scope k l.0) (statements_few ss c first.scope k l.1)

      -- a branch is one more part
      pub branch_few : (b : tree.Branch) (c : Context) (scope : Scope) → c.functions ≡ fs → AllListed c.numbering (branch_copy copies b c scope) → 3 * code_parts (branch_copy copies b c scope).code + 3 ≤ 10 * nodes.of_branch N b + 10 * counts.of_branch S b + 3 * words_on c.core (branch_copy copies b c scope).variables
      branch_few (tree.branch place s) c scope k m = let h = statement_few s c scope k m in omega (arith, h)

      branches_few : (bs : tree.Branches) (index : ℕ) (c : Context) (scope : Scope) → c.functions ≡ fs → AllListed c.numbering (branches_copy copies bs index c scope).made
          → 3 * parts.of_branches vs (branches_copy copies bs index c scope).branches ≤ 10 * nodes.of_branches N bs + 10 * counts.of_branches S bs + 3 * words_on c.core (branches_copy copies bs index c scope).made.variables
      branches_few tree.no_branch index c scope k m = omega arith
      branches_few (tree.more_branches b bs) index c scope k m =
          let first = branch_copy copies b (in_branch c index) scope in
          let others = branches_copy copies bs (index + 1) c first.scope in
          let l = split (Listed c.numbering) first.variables others.made.variables m in
          let h = branch_few b (in_branch c index) scope k l.0 in
          let g = branches_few bs (index + 1) c first.scope k l.1 in
          let w = words_joined c.core first.variables others.made.variables in
          omega (arith, h, g, w)

      cases_few : (cs : tree.Cases) (c : Context) (scope : Scope) → c.functions ≡ fs → AllListed c.numbering (cases_copy copies cs c scope).made → CasesFew (cases_copy copies cs c scope) c.core (nodes.of_cases N cs) (counts.of_cases S cs)
      cases_few tree.no_case c scope k m = omega arith
      cases_few (tree.more_cases (tree.case pos guard None ss) cs) c scope k m =
          let body = statements_copy copies ss (in_case c pos) scope in
          let others = cases_copy copies cs c scope in
          let l = split (Listed c.numbering) body.variables others.made.variables m in
          let h = case_few c scope pos guard None body others (nodes.of_statements N ss) (nodes.of_cases N cs) (counts.of_statements S ss) (counts.of_cases S cs)
          (statements_few ss (in_case c pos) scope k l.0) (cases_few cs c scope k l.1) in
          omega (arith, h)
      cases_few (tree.more_cases (tree.case pos guard (Some i) ss) cs) c scope k m =
          let body = statements_copy copies ss (in_case c pos) (case_scope c scope (Some i)) in
          let others = cases_copy copies cs c scope in
          let own = (input_names c scope i).variables in
          let l = split (Listed c.numbering) (own ++ body.variables) others.made.variables m in
          let l2 = split (Listed c.numbering) own body.variables l.0 in
          let h = case_few c scope pos guard (Some i) body others (nodes.of_statements N ss) (nodes.of_cases N cs) (counts.of_statements S ss) (counts.of_cases S cs)
          (statements_few ss (in_case c pos) (case_scope c scope (Some i)) k l2.1) (cases_few cs c scope k l.1) in
          omega (arith, h)

  -- Parameters: each is a statement that counts.

  element_few : (c : Context) (scope : Scope) (own : Path) (pos : Pos) (i : tree.Expression) (at : Pos) (x : Entity) → 3 * code_parts (by_element c scope own pos i at x).code ≤ 5 * nodes.of_expression i + 10
  element_few c scope own pos i at (a_word path u) = omega arith
  element_few c scope own pos i at (an_array path n u) = let h = expression_few c.numbering scope i in omega (arith, h)
  element_few c scope own pos i at (an_element array index u) = omega arith
  element_few c scope own pos i at (a_channel path) = omega arith
  element_few c scope own pos i at (a_timer path) = omega arith
  element_few c scope own pos i at (a_port n) = omega arith
  element_few c scope own pos i at (a_constant v) = omega arith
  element_few c scope own pos i at nothing_known = omega arith

  form_few : (c : Context) (scope : Scope) (own : Path) (pos at : Pos) (f : tree.Form) → 3 * code_parts (form_by_reference c scope own pos at f).code ≤ 5 * nodes.of_form f + 10
  form_few c scope own pos at (tree.number value u) = omega arith
  form_few c scope own pos at (tree.name text) = omega arith
  form_few c scope own pos at (tree.index text i) = element_few c scope own pos i at (entity_of scope text)
  form_few c scope own pos at (tree.unary symbol a) = omega arith
  form_few c scope own pos at (tree.binary symbol a b) = omega arith
  form_few c scope own pos at (tree.choice test a b) = omega arith
  form_few c scope own pos at (tree.cast u a) = omega arith

  name_few : (scope : Scope) (e : tree.Expression) → 3 * code_parts (by_name scope e).code ≤ 10
  name_few scope (tree.expression (tree.number value u) at) = omega arith
  name_few scope (tree.expression (tree.name text) at) = omega arith
  name_few scope (tree.expression (tree.index text i) at) = omega arith
  name_few scope (tree.expression (tree.unary symbol a) at) = omega arith
  name_few scope (tree.expression (tree.binary symbol a b) at) = omega arith
  name_few scope (tree.expression (tree.choice test a b) at) = omega arith
  name_few scope (tree.expression (tree.cast u a) at) = omega arith

  passed_few : (c : Context) (scope : Scope) (own : Path) (pos : Pos) (kind : ParamKind) (e : tree.Expression) → 3 * code_parts (passed c scope own pos kind e).code ≤ 5 * nodes.of_expression e + 10
  passed_few c scope own pos (Value u) e = let h = expression_few c.numbering scope e in omega (arith, h)
  passed_few c scope own pos (Ref u) (tree.expression form at) = let h = form_few c scope own pos at form in omega (arith, h)
  passed_few c scope own pos (Array u n) e = let h = name_few scope e in omega (arith, h)
  passed_few c scope own pos (End is_streaming) e = let h = name_few scope e in omega (arith, h)
  passed_few c scope own pos (Port dir) e = let h = name_few scope e in omega (arith, h)

  parameters_few : (c : Context) (scope : Scope) (own : Path) (ps : List Param) (args : List tree.Argument) → 3 * code_parts (all_passed c scope own ps args).code ≤ 10 * sum_by nodes.of_argument args + 10 * length ps
  parameters_few c scope own [] args = omega arith
  parameters_few c scope own (p ∷ ps) [] = omega arith
  parameters_few c scope own (p ∷ ps) (a ∷ args) =
      let one = passed_few c scope own p.name.pos p.kind a.value in
      let h = parameters_few c scope own ps args in
      let j = code_joined (passed c scope own p.name.pos p.kind a.value).code (all_passed c scope own ps args).code in
      let s = sum_by-cons nodes.of_argument a args in
      omega (arith, one, h, j, s)

  result_few : (c : Context) (result : Path) (pos : Pos) (scope : Scope) (u : Option Bool) → AllListed c.numbering (result_copy c result pos scope u) → code_parts (result_copy c result pos scope u).code ≤ 2
  result_few c result pos scope None m = omega arith
  result_few c result pos scope (Some u) m = let l = m.0 in omega (arith, l)

  -- the copy of a function, whose own calls have few, by what its parameters have
  pub function_few : (fs : List Function) (copies : CopiesCall) (N S : tree.Call → ℕ) → CallsFew fs copies N S → (c : Context) (scope : Scope) (own : Path) (f : Function) (args : List tree.Argument) (params : ℕ) → 3 * code_parts (all_passed c scope own f.head.params args).code ≤ 10 * sum_by nodes.of_argument args + 10 * params
      → c.functions ≡ fs → AllListed c.numbering (function_copy (statement_copy copies) c scope own f args)
      → IsFew (function_copy (statement_copy copies) c scope own f args) c.core (sum_by nodes.of_argument args + nodes.of_statement N f.body) (counts.of_statement S f.body + params + 1)
  function_few fs copies N S calls c scope own f args params p k m =
      let handed = all_passed c scope own f.head.params args in
      let body = statement_copy copies f.body (in_function c own f) handed.scope in
      let returned = result_copy c (path_at own f.head.name.pos) f.head.name.pos scope f.head.result in
      let l = split (Listed c.numbering) returned.variables (handed.variables ++ body.variables) m in
      let l2 = split (Listed c.numbering) handed.variables body.variables l.1 in
      let r = result_few c (path_at own f.head.name.pos) f.head.name.pos scope f.head.result l.0 in
      let b = statement_few fs copies N S calls f.body (in_function c own f) handed.scope k l2.1 in
      let block = (body_copy (statement_copy copies) c own f handed.scope).code in
      let j = code_joined handed.code block in
      let g = code_joined returned.code (handed.code ++ block) in
      let v = words_joined c.core handed.variables body.variables in
      let w = words_joined c.core returned.variables (handed.variables ++ body.variables) in
      omega (arith, r, p, b, j, g, v, w)

  -- a main that is handed nothing
  pub unhanded_few : (c : Context) (scope : Scope) (own : Path) (ps : List Param) → 3 * code_parts (all_passed c scope own ps []).code ≤ 0
  unhanded_few c scope own [] = omega arith
  unhanded_few c scope own (p ∷ ps) = omega arith

  -- the call of a function, where there is one
  some_few : (fs : List Function) (depth : ℕ) → CallsFew fs (calls_copy depth) (count_within nodes.of_function fs depth) (count_within counts.of_function fs depth) → (c : Context) (scope : Scope) (pos : Pos) (args : List tree.Argument) (f : Option Function) → c.functions ≡ fs → AllListed c.numbering (call_by (calls_copy (suc depth)) c scope pos args f)
      → IsFew (call_by (calls_copy (suc depth)) c scope pos args f) c.core (sum_by nodes.of_argument args + nodes.of_function (count_within nodes.of_function fs depth) f) (counts.of_function (count_within counts.of_function fs depth) f)
  some_few fs depth calls c scope pos args None k m = omega arith
  some_few fs depth calls c scope pos args (Some f) k m = function_few fs (calls_copy depth) (count_within nodes.of_function fs depth) (count_within counts.of_function fs depth) calls c scope (path_of_call c pos) f args (length f.head.params) (parameters_few c scope (path_of_call c pos) f.head.params args) k m

  none_few : (c : Context) (scope : Scope) (pos : Pos) (args : List tree.Argument) (f : Option Function) → code_parts (call_by (calls_copy zero) c scope pos args f).code ≤ 0
  none_few c scope pos args None = omega arith
  none_few c scope pos args (Some f) = omega arith

  -- calls have few, however deep they go
  pub calls_few : (fs : List Function) (depth : ℕ) → CallsFew fs (calls_copy depth) (count_within nodes.of_function fs depth) (count_within counts.of_function fs depth)
  calls_few fs zero = record { few = λ c scope call k m. let h = none_few c scope call.called.pos call.arguments (called c call) in omega (arith, h) }
  calls_few fs (suc depth) = record {
    few = λ c scope call k m.
        subst (λ (g : List Function). IsFew (call_copy (calls_copy (suc depth)) c scope call) c.core (sum_by nodes.of_argument call.arguments + nodes.of_function (count_within nodes.of_function fs depth) (function_named g call.called.text)) (counts.of_function (count_within counts.of_function fs depth) (function_named g call.called.text))) k
        (some_few fs depth (calls_few fs depth) c scope call.called.pos call.arguments (called c call) k m);
  }
