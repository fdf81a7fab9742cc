use Rattle.xl_expr.specs.Targets.{AreAimed}
use Rattle.xt_code.proofs.statements.code_of.Given as goal

abbrev pub invariant-loop-step : goal.invariant-loop-step
invariant-loop-step l = AreAimed 0 l.e
