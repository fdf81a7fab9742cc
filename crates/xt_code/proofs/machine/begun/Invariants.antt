use Rattle.std.proofs.Common.{◌+◌, ◌*◌, ◌≡◌, length}
use Rattle.xl_expr.specs.Targets.{AreAimed}
use Rattle.xt_code.proofs.machine.begun.Given as goal

abbrev pub invariant-loop-word : goal.invariant-loop-word
invariant-loop-word l = record { aimed : AreAimed 0 l.e; long : length l.e ≡ 2 + 2 * l.word-index }
