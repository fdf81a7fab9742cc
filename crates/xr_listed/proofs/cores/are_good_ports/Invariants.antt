use Rattle.std.proofs.Common.{length}
use Rattle.xr_listed.proofs.cores.are_good_ports.Given as goal
use Rattle.xs_instr.specs.Valid.{AreGoodPorts}

-- the ports are good where those that are left are
abbrev pub invariant-each : goal.invariant-each
invariant-each l = AreGoodPorts l.rest → AreGoodPorts l.fn.decls

abbrev pub decreases-each : goal.decreases-each
decreases-each l = length l.rest
