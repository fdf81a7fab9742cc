use Rattle.std.proofs.Common.{ap, sym, ◌∙◌, ◌+◌, ◌||◌, drop, map}
use Rattle.xc_tree.specs.Plain as plain
use Rattle.xc_tree.specs.Trees as tree
use Rattle.xc_kernel.specs.Roots as spec
use Rattle.xc_inline.proofs.Laws.Roots.{placed_step}
use Rattle.xc_inline.proofs.roots.some_placed.Goals as goal

pub returns-then-is_some : goal.returns-then-is_some
returns-then-is_some c =
    let rest = spec.has_placed (plain.branches (map tree.branch_of (drop (c.loop-b.b-index + 1) c.args.bs.now))) in
    sym (c.loop-b.invariant ∙ placed_step c.args.bs.now c.loop-b.b-index c.b-item.result c.b-item.is c.loop-b-test.true ∙ ap (λ b. b || rest) (sym c.is_some.ensures ∙ c.if-is_some.true))

pub loop-b-preserved : goal.loop-b-preserved
loop-b-preserved c =
    let rest = spec.has_placed (plain.branches (map tree.branch_of (drop (c.loop-b.b-index + 1) c.args.bs.now))) in
    c.loop-b.invariant ∙ placed_step c.args.bs.now c.loop-b.b-index c.b-item.result c.b-item.is c.loop-b-test.true ∙ ap (λ b. b || rest) (sym c.is_some.ensures ∙ c.if-is_some.false)
