use Rattle.std.proofs.Common.{◌≡◌, ◌++◌, length}
use Rattle.xr_assembly.proofs.image.roots_of.Given as goal
use Rattle.xr_assembly.specs.Images.{root_in, told}

abbrev pub invariant-each : goal.invariant-each
invariant-each l = l.roots ++ told root_in l.rest ≡ told root_in l.fn.lines

abbrev pub decreases-each : goal.decreases-each
decreases-each l = length l.rest
