use Rattle.std.proofs.Common.{length}
use Rattle.xr_listed.proofs.channels.are_good_pairs.Given as goal
use Rattle.xs_instr.specs.Valid.{AreGoodPairs}

-- the channels are good where those that are left are
abbrev pub invariant-each : goal.invariant-each
invariant-each l = AreGoodPairs l.fn.cores l.rest → AreGoodPairs l.fn.cores l.fn.chans

abbrev pub decreases-each : goal.decreases-each
decreases-each l = length l.rest
