use Rattle.std.proofs.Common.{◌≡◌, ◌<◌, ℕ}
use Rattle.xr_listed.proofs.channels.are_once_below.Given as goal
use Rattle.xs_instr.specs.Valid.{times_named}

-- each end so far is named once
abbrev pub invariant-loop-end : goal.invariant-loop-end
invariant-loop-end l = (e : ℕ) → e < l.end → times_named l.fn.chans l.fn.number e ≡ 1
