-- What the taking of an event leaves of its core.
use Rattle.std.specs.Prelude.{◌≡◌, ◌≢◌, ℕ, false, length, Some, slice_get}
use Rattle.xs_instr.specs.declared.state.CoreState.{CoreState}
use Rattle.xs_instr.specs.declared.state.Res.{Res}
use Rattle.xs_instr.specs.declared.state.Thread.{Thread}
use Rattle.xs_instr.specs.Events.{vector_of}
use Rattle.xl_expr.specs.ResourceParts.{OtherPartsStay}

-- one resource alone
abbrev pub alone : (one res : Res) → Type 0
alone one res = res ≡ one

-- Thread t takes the event of a resource: it is at the event's vector, and takes events no more. Other threads and other resources are as
-- they were, and so is the rest of the core.
pub record EventLeaves (t : ℕ) (x : Thread) (res : Res) (a b : CoreState) : Type 0 where
  pub goes : slice_get b.threads t ≡ Some (record x { pc = vector_of a.events res; event_bit = false })
  pub others : (u : ℕ) → u ≢ t → slice_get b.threads u ≡ slice_get a.threads u
  pub as_many : length b.threads ≡ length a.threads
  pub parts : OtherPartsStay (alone res) t a b
  pub rest : b ≡ record a { threads = b.threads; ports = b.ports; timers = b.timers }
