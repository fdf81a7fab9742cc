-- What a thread does at ports and timers.
use Rattle.std.specs.Prelude.{◌≡◌, ◌<◌, ◌||◌, ℕ, true, length, slice_index_or}
use Rattle.xs_core.specs.declared.port_rows.PortStep.{PortStep}
use Rattle.xs_core.specs.declared.port_rows.PortStep.TheVariants.{Drive, Read, PortCond, PortData, PortTime, Clock, TimerCond, TimerData}
use Rattle.xs_core.specs.Seen.{timer_at}
use Rattle.xs_instr.specs.declared.image.Home.{Home}
use Rattle.xs_instr.specs.declared.state.CoreState.{CoreState}
use Rattle.xs_instr.specs.declared.state.Port.{Port}
use Rattle.xs_instr.specs.declared.state.Thread.{Thread}
use Rattle.xs_instr.specs.Did.{Did, map_did}
use Rattle.xs_instr.specs.Ports.{can_send, can_receive, counter, is_port_cond, port_time_set, time_meets}
use Rattle.xs_instr.specs.Resources.{APort, ATimer, on_port}
use Rattle.xs_instr.specs.Rows.{out_row, in_row, cond_row, data_row, goes_with, put_ports}
use Rattle.xs_instr.specs.Slot.{is_there}
use Rattle.xs_instr.specs.Timers.{is_timer_cond, timer_meets}
use Rattle.xs_port.specs.Ports.{no_port, passes_input}

-- the port at a place, which is below their count
abbrev pub port_in : CoreState → ℕ → Port
port_in core p = slice_index_or core.ports p no_port

-- the row of a step, at the port or timer that it is for
abbrev pub port_did : Home → CoreState → ℕ → Thread → PortStep → Did CoreState
port_did home core t x (Drive p v) = out_row home core t x v (APort p)
port_did home core t x (Read d p) = in_row home core t x d 0 (APort p)
port_did home core t x (PortCond p cond) = cond_row core t x cond (APort p)
port_did home core t x (PortData p v) = data_row core t x v (APort p)
port_did home core t x (PortTime p v) = map_did (goes_with put_ports core t x) (on_port core (port_time_set v core.ports) (APort p))
port_did home core t x (Clock d n) = in_row home core t x d 0 (ATimer n)
port_did home core t x (TimerCond n cond) = cond_row core t x cond (ATimer n)
port_did home core t x (TimerData n v) = data_row core t x v (ATimer n)

-- the port or timer is there, and the step neither pauses nor traps
abbrev pub PortFits : Home → CoreState → PortStep → Type 0
PortFits home core (Drive p v) =
    (p < length core.ports) × (can_send (port_in core p).decl.dir ≡ true) × (time_meets (port_in core p).time (counter core.clock) ≡ true)
PortFits home core (Read d p) =
    (p < length core.ports) × (can_receive (port_in core p).decl.dir ≡ true) × (passes_input home core.clock (port_in core p) ≡ true)
PortFits home core (PortCond p cond) = (p < length core.ports) × (is_port_cond cond ≡ true)
PortFits home core (PortData p v) = p < length core.ports
PortFits home core (PortTime p v) = p < length core.ports
PortFits home core (Clock d n) =
    let timer = timer_at core.timers n in
    (n < length core.timers) × ((is_there timer.latch || timer_meets timer.cond core.clock timer.datum) ≡ true)
PortFits home core (TimerCond n cond) = (n < length core.timers) × (is_timer_cond cond ≡ true)
PortFits home core (TimerData n v) = n < length core.timers
