use Rattle.std.proofs.Common.{arith, ap, ◌∙◌, ◌-◌, [], take, sym}
use Rattle.xc_inline.proofs.Laws.Scopes.{entity_at}
use Rattle.xc_inline.specs.Scopes.{entity_meant, declared_in}
use Rattle.xc_kernel.specs.Scopes as spec
use Rattle.xc_inline.proofs.scope.Scope.entity.Goals as goal

pub returns-then-eq : goal.returns-then-eq
returns-then-eq c =
    let i = c.outward.invariant in
    let items = c.args.self.now.names.items in
    let b = c.index-binding.result.now in
    let before = entity_at items c.outward.left (c.outward.left - 1) b c.args.name.now (omega arith) c.index-binding.ensures (omega (arith, i.0)) in
    sym (i.1 ∙ before ∙ ap (λ x. spec.entity_by x (entity_meant b.entity) (spec.entity_of (declared_in [] (take (c.outward.left - 1) items)) c.args.name.now)) (sym c.eq.ensures ∙ c.if-eq.true))

pub outward-preserved : goal.outward-preserved
outward-preserved c =
    let i = c.outward.invariant in
    let items = c.args.self.now.names.items in
    let b = c.index-binding.result.now in
    let before = entity_at items c.outward.left (c.outward.left - 1) b c.args.name.now (omega arith) c.index-binding.ensures (omega (arith, i.0)) in
    (omega (arith, i.0), i.1 ∙ before ∙ ap (λ x. spec.entity_by x (entity_meant b.entity) (spec.entity_of (declared_in [] (take (c.outward.left - 1) items)) c.args.name.now)) (sym c.eq.ensures ∙ c.if-eq.false))
