use Rattle.std.proofs.Common.{ap, sym, ◌∙◌, ◌-◌}
use Rattle.xc_tree.specs.Trees as tree
use Rattle.xc_kernel.specs.Copy as copies
use Rattle.xc_kernel.specs.Parameters as spec
use Rattle.xc_inline.specs.Contexts.{context_of}
use Rattle.xc_inline.specs.Copied.{copy_of}
use Rattle.xc_inline.specs.Scopes.{scope_of}
use Rattle.xc_inline.proofs.Laws.Parameters.{goes_down, handed_as, least_first, least_second, passed_all, passed_end, passed_step, stays_below, stays_within}
use Rattle.xc_inline.proofs.context.Context.all_passed.Goals as goal

pub backward-init : goal.backward-init
backward-init c =
    let n = c.least-left.ensures in
    record {
      params = least_first _ _ _ n;
      args = least_second _ _ _ n;
      copied = c.with-entered.ensures ∙ ap copies.no_copy c.in_ok-ports.ensures
          ∙ sym (passed_end (context_of c.args.self.now) (scope_of c.args.scope.now) c.args.own.now c.args.params.now c.args.args.now c.least-left.result n);
    }

pub backward-preserved : goal.backward-preserved
backward-preserved c =
    let here = context_of c.args.self.now in
    let scope = scope_of c.args.scope.now in
    let own = c.args.own.now in
    let p = c.index-params-left.result in
    let a = c.index-args-left.result in
    let p' = spec.passed here scope own p.name.pos p.kind (tree.argument_of a).value in
    let inv = c.backward.invariant in
    let handed = rw c.in_ok-others.ensures.made at c.passed-handed.ensures in
    let same = sym c.index-args-left.is in
    let others = ap (λ e. copy_of e.copied (scope_of e.scope)) c.in_ok-others.ensures.value in
    record {
      params = stays_within _ _ inv.params;
      args = stays_within _ _ inv.args;
      copied = c.in_ok-entered.ensures p' (handed_as (ap (λ x. spec.passed here scope own p.name.pos p.kind (tree.argument_of x).value) same) handed)
          ∙ (λ i. spec.and_passed (c.as_slice.ensures i) p' ((others ∙ inv.copied) i))
          ∙ passed_step here scope own c.args.params.now c.args.args.now c.backward.left (c.backward.left - 1) p a (goes_down c.backward.left c.backward-test.true) c.index-params-left.is c.index-args-left.is (stays_below _ _ c.backward-test.true inv.params) (stays_below _ _ c.backward-test.true inv.args);
    }

pub bounds-params-left : goal.bounds-params-left
bounds-params-left c = stays_below _ _ c.backward-test.true c.backward.invariant.params

pub bounds-args-left : goal.bounds-args-left
bounds-args-left c = stays_below _ _ c.backward-test.true c.backward.invariant.args

pub returns : goal.returns
returns c = passed_all (context_of c.args.self.now) (scope_of c.args.scope.now) c.args.own.now c.args.params.now c.args.args.now c.backward.left c.backward-test.false c.backward.invariant.copied
