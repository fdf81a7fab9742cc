-- What the rest of the loop does leads to what the whole does.
use Rattle.std.proofs.Common.{drop, length}
use Rattle.xl_statements.proofs.Closing.{Closing}
use Rattle.xl_statements.proofs.leaving.land_jumps.Given as goal

abbrev pub invariant-loop-jump : goal.invariant-loop-jump
invariant-loop-jump l = Closing l.initial.e l.ended (length l.initial.e) l.inner l.e (drop l.jump-index l.inner)
