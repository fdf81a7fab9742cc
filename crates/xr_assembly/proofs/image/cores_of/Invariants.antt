use Rattle.std.proofs.Common.{◌≡◌, ◌++◌, length}
use Rattle.xr_assembly.proofs.image.cores_of.Given as goal
use Rattle.xr_assembly.specs.Images.{cores_of}

abbrev pub invariant-each : goal.invariant-each
invariant-each l = l.cores ++ cores_of l.rest ≡ cores_of l.fn.lines

abbrev pub decreases-each : goal.decreases-each
decreases-each l = length l.rest
