use Rattle.std.proofs.Common.{◌≤◌, length}
use Rattle.xr_listed.proofs.cores.are_good_cores.Given as goal
use Rattle.xs_instr.specs.Valid.{AreGoodCores}

-- the cores are good where those that are left are
abbrev pub invariant-each : goal.invariant-each
invariant-each l = (l.least ≤ 4) × (AreGoodCores l.least l.rest → AreGoodCores 0 l.fn.cores)

abbrev pub decreases-each : goal.decreases-each
decreases-each l = length l.rest
