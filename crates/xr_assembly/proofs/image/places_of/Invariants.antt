use Rattle.std.proofs.Common.{◌≡◌, ◌++◌, length}
use Rattle.xr_assembly.proofs.image.places_of.Given as goal
use Rattle.xr_assembly.specs.Images.{pos_in, told}

abbrev pub invariant-each : goal.invariant-each
invariant-each l = l.places ++ told pos_in l.rest ≡ told pos_in l.fn.lines

abbrev pub decreases-each : goal.decreases-each
decreases-each l = length l.rest
