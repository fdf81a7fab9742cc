use Rattle.std.proofs.Common.{◌≡◌, length}
use Rattle.xf_time.proofs.timing.first_misplaced.Given as goal
use Rattle.xf_time.specs.Bounds.{first_misplaced}

-- none of those that were passed is misplaced
abbrev pub invariant-each : goal.invariant-each
invariant-each l = first_misplaced l.fn.image l.rest ≡ first_misplaced l.fn.image l.fn.lines

abbrev pub decreases-each : goal.decreases-each
decreases-each l = length l.rest
