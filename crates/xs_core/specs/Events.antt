-- What a thread does with events.
use Rattle.std.specs.Prelude.{ℕ, Option, Some, None}
use Rattle.xs_core.specs.declared.event_rows.EventStep.{EventStep}
use Rattle.xs_core.specs.declared.event_rows.EventStep.TheVariants.{Vector, Enable, Disable, Clear, Bit}
use Rattle.xs_instr.specs.declared.state.CoreState.{CoreState}
use Rattle.xs_instr.specs.declared.state.Events.{Events}
use Rattle.xs_instr.specs.declared.state.Res.{Res}
use Rattle.xs_instr.specs.declared.state.Thread.{Thread}
use Rattle.xs_instr.specs.declared.trace.Trap.TheVariants.{Resource}
use Rattle.xs_instr.specs.Did.{Did, makes, map_did, Traps}
use Rattle.xs_instr.specs.Events.{cleared, disable_row, enable_row, vector_row}
use Rattle.xs_instr.specs.Rows.{bit_row, goes_with, put_events}

-- the row of a step, for the resource that it is for
abbrev pub event_did : CoreState → ℕ → Thread → EventStep → Did CoreState
event_did core t x (Vector res k) = map_did (goes_with put_events core t x) (vector_row core.events k res)
event_did core t x (Enable res) = map_did (goes_with put_events core t x) (enable_row core.events t res)
event_did core t x (Disable res) = map_did (goes_with put_events core t x) (disable_row core.events res)
event_did core t x Clear = makes (goes_with put_events core t x (cleared core.events t))
event_did core t x (Bit bit) = bit_row core t x bit

-- goes on with a resource that is there, and traps where there is none
abbrev pub go_where : (Res → Did Events) → Option Res → Did Events
go_where go None = Traps Resource
go_where go (Some res) = go res
