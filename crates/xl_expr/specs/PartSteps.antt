-- What a thread's code relies on that uses resources, its own steps, and where they lead, whatever other threads do between them.
use Rattle.std.specs.Prelude.{◌≡◌, ℕ, Bool, List, Some, slice_get}
use Rattle.xs_instr.specs.declared.image.Home.{Home}
use Rattle.xs_instr.specs.declared.state.CoreState.{CoreState}
use Rattle.xs_instr.specs.declared.state.Events.{Events}
use Rattle.xs_instr.specs.declared.state.Port.{Port}
use Rattle.xs_instr.specs.declared.state.Res.{Res}
use Rattle.xs_instr.specs.declared.state.Thread.{Thread}
use Rattle.xs_instr.specs.declared.state.Timer.{Timer}
use Rattle.xs_instr.specs.Did.{makes}
use Rattle.xs_instr.specs.OwnSteps.{Kept}
use Rattle.xs_instr.specs.Rows.{Local, put_local}
use Rattle.xs_instr.specs.Slot.{slot}
use Rattle.xl_expr.specs.Leads.{Leads}
use Rattle.xl_expr.specs.ResourceParts.{OtherPartsStay, OwnPartsStay}

-- the rely: what others leave as it is, the thread, the words of `relied` and the thread's own resources
pub record KeptParts (relied : ℕ → Bool) (mine : Res → Type 0) (t : ℕ) (a b : CoreState) : Type 0 where
  pub own : Kept relied t a b
  pub resources : OwnPartsStay mine t a b

-- the guarantee: a step of thread t that changes nothing but its pc, its registers, words and its own resources, leaves these words as they are,
-- and makes no record
pub record PartsStep (home : Home) (leaves : ℕ → Type 0) (mine : Res → Type 0) (t : ℕ) (a b : CoreState) : Type 0 where
  pub thread : Thread
  pub here : slice_get a.threads t ≡ Some thread
  pub after : Local
  pub ports : List Port
  pub timers : List Timer
  pub events : Events
  pub made : slot home a t ≡ makes b
  pub left : b ≡ record (put_local a t thread after) { ports = ports; timers = timers; events = events }
  pub words : (w : ℕ) → leaves w → slice_get after.words w ≡ slice_get a.words w
  pub resources : OtherPartsStay mine t a b

-- at most n own steps of thread t, whatever happens between them, lead to where Q holds
abbrev pub WithinParts : Home → (ℕ → Bool) → (ℕ → Type 0) → (mine : Res → Type 0) → (t : ℕ) → (CoreState → Type 0) → ℕ → CoreState → Type 0
WithinParts home relied leaves mine t = Leads (KeptParts relied mine t) (PartsStep home leaves mine t)
