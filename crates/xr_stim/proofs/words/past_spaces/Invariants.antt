use Rattle.std.proofs.Common.{◌≡◌, length}
use Rattle.xr_stim.proofs.words.past_spaces.Given as goal
use Rattle.xr_stim.specs.Lines.{past_spaces}

abbrev pub invariant-loop-rest : goal.invariant-loop-rest
invariant-loop-rest l = past_spaces l.rest ≡ past_spaces l.fn.line

abbrev pub decreases-loop-rest : goal.decreases-loop-rest
decreases-loop-rest l = length l.rest
