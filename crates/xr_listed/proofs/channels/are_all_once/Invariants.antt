use Rattle.std.proofs.Common.{◌≡◌, ◌<◌, ℕ}
use Rattle.xr_listed.proofs.channels.are_all_once.Given as goal
use Rattle.xs_instr.specs.Machine.{parts_in}
use Rattle.xs_instr.specs.Valid.{times_named}

-- each end of the cores so far is named once
abbrev pub invariant-loop-number : goal.invariant-loop-number
invariant-loop-number l = (c e : ℕ) → c < l.number → e < (parts_in l.cores c).ends → times_named l.chans c e ≡ 1
