use Rattle.std.proofs.Common.{◌≡◌, length}
use Rattle.xf_time.proofs.timing.code_of.Given as goal
use Rattle.xs_instr.specs.Machine.{parts_in}

-- the core is none of those that were passed
abbrev pub invariant-each : goal.invariant-each
invariant-each l = (parts_in l.rest l.fn.core).code ≡ (parts_in l.fn.cores l.fn.core).code

abbrev pub decreases-each : goal.decreases-each
decreases-each l = length l.rest
