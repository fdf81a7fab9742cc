use Rattle.std.proofs.Common.{length}
use Rattle.xr_listed.proofs.cores.is_new.Given as goal
use Rattle.xs_instr.specs.Valid.{IsNewPort}

-- no port has the identifier where none of those has it that are left
abbrev pub invariant-each : goal.invariant-each
invariant-each l = IsNewPort l.fn.id l.rest → IsNewPort l.fn.id l.fn.decls

abbrev pub decreases-each : goal.decreases-each
decreases-each l = length l.rest
