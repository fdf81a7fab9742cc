use Rattle.std.proofs.Common.{◌≡◌, ◌++◌, length}
use Rattle.xr_assembly.proofs.image.pairs_of.Given as goal
use Rattle.xr_assembly.specs.Images.{pairs_of}

abbrev pub invariant-each : goal.invariant-each
invariant-each l = l.pairs ++ pairs_of l.rest ≡ pairs_of l.fn.lines

abbrev pub decreases-each : goal.decreases-each
decreases-each l = length l.rest
