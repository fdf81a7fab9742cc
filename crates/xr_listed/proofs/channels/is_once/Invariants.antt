use Rattle.std.proofs.Common.{◌≡◌, ◌+◌, ◌≤◌, length}
use Rattle.xr_listed.proofs.channels.is_once.Given as goal
use Rattle.xs_instr.specs.Valid.{times_named}

-- the channels that were passed named it so often
abbrev pub invariant-each : goal.invariant-each
invariant-each l =
    (l.found ≤ 1) × (l.found + times_named l.rest l.fn.number l.fn.end ≡ times_named l.fn.chans l.fn.number l.fn.end)

abbrev pub decreases-each : goal.decreases-each
decreases-each l = length l.rest
