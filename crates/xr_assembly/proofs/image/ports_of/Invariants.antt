use Rattle.std.proofs.Common.{◌≡◌, ◌++◌, length}
use Rattle.xr_assembly.proofs.image.ports_of.Given as goal
use Rattle.xr_assembly.specs.Images.{port_in, told}

abbrev pub invariant-each : goal.invariant-each
invariant-each l = l.ports ++ told port_in l.rest ≡ told port_in l.fn.lines

abbrev pub decreases-each : goal.decreases-each
decreases-each l = length l.rest
