use Rattle.std.proofs.Common.{ap, sym, ◌∙◌, ◌+◌, ◌||◌, drop, map}
use Rattle.xc_tree.specs.Plain as plain
use Rattle.xc_tree.specs.Trees as tree
use Rattle.xc_kernel.specs.Roots as spec
use Rattle.xc_inline.proofs.Laws.Roots.{block_placed_step}
use Rattle.xc_inline.proofs.roots.block_has_placed.Goals as goal

pub returns-then-has_placed : goal.returns-then-has_placed
returns-then-has_placed c =
    let rest = spec.block_has_placed (plain.statements (map tree.statement_of (drop (c.loop-s.s-index + 1) c.args.ss.now))) in
    sym (c.loop-s.invariant ∙ block_placed_step c.args.ss.now c.loop-s.s-index c.s-item.result c.s-item.is c.loop-s-test.true ∙ ap (λ b. b || rest) (sym c.has_placed.ensures ∙ c.if-has_placed.true))

pub loop-s-preserved : goal.loop-s-preserved
loop-s-preserved c =
    let rest = spec.block_has_placed (plain.statements (map tree.statement_of (drop (c.loop-s.s-index + 1) c.args.ss.now))) in
    c.loop-s.invariant ∙ block_placed_step c.args.ss.now c.loop-s.s-index c.s-item.result c.s-item.is c.loop-s-test.true ∙ ap (λ b. b || rest) (sym c.has_placed.ensures ∙ c.if-has_placed.false)
