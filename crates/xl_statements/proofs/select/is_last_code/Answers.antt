use Rattle.std.proofs.Common.{◌∙◌, length, arith}
use Rattle.std.proofs.lemmas.Bool.{ne_eqb}
use Rattle.xc_kernel.specs.Kernels.{default_of}
use Rattle.xl_statements.proofs.Cases.{not_last}
use Rattle.xl_statements.proofs.select.is_last_code.Goals as goal

pub returns-else-others-eq0 : goal.returns-else-others-eq0
returns-else-others-eq0 c =
    ne_eqb (length c.args.others.now) 0 c.if-others-eq0.false
    ∙ not_last c.args.others.now (default_of c.args.otherwise.now) (omega (arith, c.if-others-eq0.false))
