use Rattle.std.proofs.Common.{List, map, sym, ap, ◌∙◌}
use Rattle.xc_kernel.specs.declared.statement.Kx.{Kx}
use Rattle.xc_kernel.specs.Kernels.{expression_of}
use Rattle.xc_kernel.specs.Plain as plain
use Rattle.xc_disjoint.specs.Footprints.{both, uses_in, of_operands}
use Rattle.xc_disjoint.proofs.FootprintSteps.{both_nothing}
use Rattle.std.proofs.lemmas.List.{drop_all}
use Rattle.xc_disjoint.proofs.expressions.+expressions.Goals as goal

pub operands-returns : goal.operands-returns
operands-returns t c =
    sym (c.loop-e.invariant
    ∙ ap (λ (es : List Kx). both (uses_in c.loop-e.footprint) (of_operands (plain.operands (map expression_of es)))) (drop_all c.loop-e.e-index c.args.all.now c.loop-e-test.false)
    ∙ both_nothing (uses_in c.loop-e.footprint))
