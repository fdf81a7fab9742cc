-- What comes of a turn, in the machine's words.
use Rattle.std.specs.Prelude.{◌≡◌, ◌+◌, ◌<◌, ◌≤◌, ◌^◌, ℕ, Bool, true, false, Option, []}
use Rattle.xs_core.specs.declared.state.State.{State}
use Rattle.xs_core.specs.declared.slot_result.SlotResult.{SlotResult}
use Rattle.xs_core.specs.declared.slot_result.SlotResult.TheVariants.{Idle as TurnIdle, Paused as TurnPaused, Trapped, Local, Pool, End, Port, Event, Take}
use Rattle.xs_core.specs.Ends.{end_did, EndFits}
use Rattle.xs_core.specs.Events.{event_did}
use Rattle.xs_core.specs.Local.{local_after, LocalFits}
use Rattle.xs_core.specs.Pool.{pool_did, PoolFits}
use Rattle.xs_core.specs.Ports.{port_did, PortFits}
use Rattle.xs_instr.specs.declared.image.Home.{Home}
use Rattle.xs_instr.specs.declared.instr.Instr.{Instr}
use Rattle.xs_instr.specs.declared.instr.Instr.TheVariants.{Outct, Chkct}
use Rattle.xs_instr.specs.declared.state.CoreState.{CoreState}
use Rattle.xs_instr.specs.declared.state.Thread.{Thread}
use Rattle.xs_instr.specs.declared.trace.Record.{Record}
use Rattle.xs_instr.specs.Did.{Did, makes, Made, Paused, Traps, Idle}
use Rattle.xs_instr.specs.Rows.{local_of, put_local}
use Rattle.xs_instr.specs.Slot.{event_taken}

-- the turn that is meant
abbrev pub denote : Home → CoreState → ℕ → Thread → SlotResult → Did CoreState
denote home core t x TurnIdle = Idle
denote home core t x TurnPaused = Paused
denote home core t x (Trapped kind) = Traps kind
denote home core t x (Local step) = makes (put_local core t x (local_after (local_of core x) step))
denote home core t x (Pool step) = pool_did home core t x step
denote home core t x (End step) = end_did home core t x step
denote home core t x (Port step) = port_did home core t x step
denote home core t x (Event step) = event_did core t x step
denote home core t x (Take res) = makes (event_taken home core t x res)

-- the step can be made
abbrev pub Fits : Home → CoreState → ℕ → Thread → SlotResult → Type 0
Fits home core t x (Local step) = LocalFits (local_of core x) step
Fits home core t x (Pool step) = PoolFits core t x step
Fits home core t x (End step) = EndFits core step
Fits home core t x (Port step) = PortFits home core step
Fits home core t x _ = Unit {0}

-- a step that leaves what it makes, with its record, and sends nothing
abbrev pub IsMade : Did CoreState → CoreState → Option Record → Type 0
IsMade (Made core made sent) new told = (new ≡ core) × (told ≡ made) × (sent ≡ [])
IsMade _ new told = ⊥

-- what no event changes stays, and so do the channel ends
pub record Keeps (old new : State) : Type 0 where
  pub fixed : new.fixed ≡ old.fixed
  pub core : new.ports.core ≡ old.ports.core
  pub stim : new.ports.stim ≡ old.ports.stim
  pub ends : new.ends ≡ old.ends

-- the turn is a step
abbrev pub steps : SlotResult → Bool
steps TurnIdle = false
steps TurnPaused = false
steps _ = true

-- there is a next instruction, where the turn goes on to it
abbrev pub MayGoOn : ℕ → SlotResult → Type 0
MayGoOn pc (Local step) = pc + 1 < 2 ^ 32
MayGoOn pc (Pool step) = pc + 1 < 2 ^ 32
MayGoOn pc (End step) = pc + 1 < 2 ^ 32
MayGoOn pc (Port step) = pc + 1 < 2 ^ 32
MayGoOn pc (Event step) = pc + 1 < 2 ^ 32
MayGoOn pc _ = Unit {0}

-- the instruction's control token is a byte
abbrev pub HasByte : Instr → Type 0
HasByte (Outct r n) = n ≤ 255
HasByte (Chkct r n) = n ≤ 255
HasByte _ = Unit {0}
