use Rattle.std.proofs.Common.{◌≡◌, length}
use Rattle.xr_assembly.proofs.references.ends_of.Given as goal
use Rattle.xs_instr.specs.Machine.{parts_in}

-- the core is none of those that were passed
abbrev pub invariant-each : goal.invariant-each
invariant-each l = (parts_in l.rest l.fn.core).ends ≡ (parts_in l.fn.cores l.fn.core).ends

abbrev pub decreases-each : goal.decreases-each
decreases-each l = length l.rest
