use Rattle.std.proofs.Common.{arith, ap, sym, ◌∙◌, ◌≡◌, ℕ, ◌+◌, ◌-◌, suc, refl}
use Rattle.xc_tree.specs.Trees as tree
use Rattle.xc_kernel.specs.Context.{in_branch}
use Rattle.xc_kernel.specs.Roots as spec
use Rattle.xc_kernel.specs.Scopes.{a_constant, with_name}
use Rattle.xc_kernel.specs.Statements.{calls_copy}
use Rattle.xc_inline.specs.Contexts.{context_of}
use Rattle.xc_inline.specs.Roots.{rooted_of}
use Rattle.xc_inline.specs.Scopes.{scope_of}
use Rattle.xc_inline.specs.Growth.{Grows}
use Rattle.xc_inline.proofs.Laws.Growth.{grown_length}
use Rattle.xc_inline.proofs.Laws.Roots.{number_grows, names_left, numbered_step, numbered_done}
use Rattle.xc_inline.proofs.context.Context.numbered_roots.Goals as goal

pub loop-number-init : goal.loop-number-init
loop-number-init c =
    let scope = scope_of c.args.scope.now in
    let e : ◌≡◌ {A = ℕ} (c.args.from - c.args.from) 0 = omega arith in
    record {
      known = c.len-known.ensures;
      scope = refl;
      roots = ap (λ k. spec.and_roots (rooted_of c.args.rooted.now scope) (spec.numbered_roots (calls_copy c.args.calls) c.args.main (tree.branch_of c.args.b.now) c.args.name.now.text (context_of c.args.self.now) scope (c.args.until - c.args.from) k c.args.from)) e;
    }

pub leave-requires : goal.leave-requires
leave-requires c =
    let scope = scope_of c.args.scope.now in
    let inv = c.loop-number.invariant in
    let inside = (rw c.in_ok-path-2.ensures.done at c.declare-declared.ensures) ∙ λ i. with_name (inv.scope i) (c.as_slice.ensures i) (a_constant c.loop-number.number) in
    let grows : Grows scope (scope_of c.branch_root-added.new.scope) = number_grows c.args.calls c.args.main (tree.branch_of c.args.b.now) (context_of c.in_branch.result) (rooted_of c.loop-number.rooted (scope_of c.declare-declared.new.self)) inside c.in_ok-added.ensures refl in
    omega (arith, inv.known, grown_length grows)

pub loop-number-preserved : goal.loop-number-preserved
loop-number-preserved c =
    let copies = calls_copy c.args.calls in
    let main = c.args.main in
    let here = context_of c.args.self.now in
    let b = tree.branch_of c.args.b.now in
    let name = c.args.name.now.text in
    let scope = scope_of c.args.scope.now in
    let from = c.args.from in
    let until = c.args.until in
    let number = c.loop-number.number in
    let inv = c.loop-number.invariant in
    let before = rooted_of c.loop-number.rooted scope in
    let after = rooted_of c.branch_root-added.new.rooted scope in
    let inside = (rw c.in_ok-path-2.ensures.done at c.declare-declared.ensures) ∙ λ i. with_name (inv.scope i) (c.as_slice.ensures i) (a_constant number) in
    let context = c.in_branch.ensures.context ∙ λ i. record here { path = (c.as_slice-in-loop-number.ensures ∙ c.in_ok-path-2.ensures.value ∙ c.in_ok-path.ensures) i } in
    let grows : Grows scope (scope_of c.branch_root-added.new.scope) = number_grows c.args.calls main b (context_of c.in_branch.result) (rooted_of c.loop-number.rooted (scope_of c.declare-declared.new.self)) inside c.in_ok-added.ensures refl in
    let one : after ≡ spec.and_roots before (spec.root_in_scope_of copies scope (spec.branch_root copies main b (in_branch here (number - from)) (with_name scope name (a_constant number)))) =
    ap (spec.root_in_scope_of copies scope) (c.in_ok-added.ensures ∙ λ i. spec.and_roots before (spec.branch_root copies main b (context i) (inside i))) in
    let next : ◌≡◌ {A = ℕ} (number + 1 - from) ((number - from) + 1) = omega (arith, c.loop-number.auto.number) in
    let less : ◌≡◌ {A = ℕ} (until - number) (suc (until - (number + 1))) = omega (arith, c.loop-number-test.true) in
    record {
      known = inv.known;
      scope = names_left grows inv.known c.leave.ensures;
      roots = ap (λ k. spec.and_roots after (spec.numbered_roots copies main b name here scope (until - (number + 1)) k (number + 1))) next
          ∙ numbered_step copies main b name here scope (until - number) (until - (number + 1)) (number - from) number before less one inv.roots;
    }

pub returns : goal.returns
returns c =
    let scope = scope_of c.args.scope.now in
    let number = c.loop-number.number in
    let inv = c.loop-number.invariant in
    let none : ◌≡◌ {A = ℕ} (c.args.until - number) 0 = omega (arith, c.loop-number-test.false) in
    ap (rooted_of c.loop-number.rooted) inv.scope
    ∙ sym (numbered_done (calls_copy c.args.calls) c.args.main (tree.branch_of c.args.b.now) c.args.name.now.text (context_of c.args.self.now) scope (c.args.until - number) (number - c.args.from) number (rooted_of c.loop-number.rooted scope) none refl)
    ∙ inv.roots
