-- What the calls on ports give and leave.
use Rattle.std.specs.Prelude.{ℕ, Bool, ◌||◌, List, [], Option, Some, None, slice_index_or, slice_set}
use Rattle.xs_instr.specs.declared.image.Dir.TheVariants.{Both}
use Rattle.xs_instr.specs.declared.image.Home.{Home}
use Rattle.xs_instr.specs.declared.image.StimLine.{StimLine}
use Rattle.xs_instr.specs.declared.state.Port.{Port}
use Rattle.xs_instr.specs.declared.state.PortGot.{PortGot}
use Rattle.xs_instr.specs.declared.trace.Record.TheVariants.{PortOut}
use Rattle.xs_instr.specs.Did.{Did, Given, Made, Paused}
use Rattle.xs_instr.specs.Machine.{boot_port, no_parts}
use Rattle.xs_instr.specs.Ports.{got_record, meets}
use Rattle.xs_instr.specs.Slot.{is_there}
use Rattle.xs_port.specs.State.{PortsState}

-- a port's place is below the count, so that this one is never meant
abbrev pub no_port : Port
no_port = boot_port (record { port = 0; dir = Both })

-- the port at a place
abbrev pub port_at : PortsState → ℕ → Port
port_at s p = slice_index_or s.ports p no_port

-- another port at a place, and all else as it was
abbrev pub with_port : PortsState → ℕ → Port → PortsState
with_port s p port = record s { ports = slice_set s.ports p port }

-- the ports of a core as they start, at clock 0
abbrev pub boot_seen : List Port → List StimLine → ℕ → PortsState
boot_seen ports stim core = record { ports = ports; clock = 0; stim = stim; core = core }

-- the core's number and the stimulus, which are all that ports read of a home
abbrev pub home_of : PortsState → Home
home_of s = record { number = s.core; parts = no_parts s.core; pairs = []; stim = s.stim }

-- the turn of an input that gave this and left the ports so; none was given where it pauses
abbrev pub input_turn : PortsState → Port → Option PortGot → List Port → Did (Given (List Port))
input_turn s port None left = Paused
input_turn s port (Some got) left = Made (record { left = left; value = got.value }) (got_record (home_of s) port got.stamp got.value) []

-- the turn of an output that gave this and left the ports so; none was given where it pauses
abbrev pub output_turn : PortsState → Port → Option PortGot → List Port → Did (List Port)
output_turn s port None left = Paused
output_turn s port (Some got) left = Made left (Some (PortOut s.core port.decl.port got.stamp got.value)) []

-- whether an input passes: something is latched, or the port meets
abbrev pub passes_input : Home → ℕ → Port → Bool
passes_input home clock port = is_there port.latch || meets home clock port
