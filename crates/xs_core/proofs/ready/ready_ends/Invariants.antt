use Rattle.xs_core.proofs.ready.ready_ends.Given as goal
use Rattle.xs_core.specs.Bits.{HasBits}
use Rattle.xs_core.specs.Seen.{state_of}
use Rattle.xs_instr.specs.Events.{end_ready}

abbrev pub invariant-loop-i : goal.invariant-loop-i
invariant-loop-i l = HasBits (end_ready (state_of l.state)) l.bits l.i
