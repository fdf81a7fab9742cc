use Rattle.std.proofs.Common.{◌≡◌, ◌++◌, length}
use Rattle.xr_assembly.proofs.image.instrs_of.Given as goal
use Rattle.xr_assembly.specs.Images.{instr_in, told}

abbrev pub invariant-each : goal.invariant-each
invariant-each l = l.instrs ++ told instr_in l.rest ≡ told instr_in l.fn.lines

abbrev pub decreases-each : goal.decreases-each
decreases-each l = length l.rest
