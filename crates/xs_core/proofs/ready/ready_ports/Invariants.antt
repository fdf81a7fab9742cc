use Rattle.xs_core.proofs.ready.ready_ports.Given as goal
use Rattle.xs_core.specs.Bits.{HasBits}
use Rattle.xs_core.specs.Seen.{home_of, state_of}
use Rattle.xs_instr.specs.Events.{port_ready}

abbrev pub invariant-loop-i : goal.invariant-loop-i
invariant-loop-i l = HasBits (port_ready (home_of l.state) (state_of l.state)) l.bits l.i
