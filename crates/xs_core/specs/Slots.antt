-- When the answer, the new state and the outbox are what a turn gives.
use Rattle.std.specs.Prelude.{◌≡◌, ◌++◌, ℕ, List, slice_get}
use Rattle.xs_core.specs.declared.did.Did.{Did as DidAnswer}
use Rattle.xs_core.specs.declared.did.Did.TheVariants.{Made as DidMake, Paused as DidPause, Trapped as DidTrap, Idle as DidRest}
use Rattle.xs_instr.specs.declared.image.Home.{Home}
use Rattle.xs_instr.specs.declared.state.CoreState.{CoreState}
use Rattle.xs_instr.specs.declared.state.Sent.{Sent}
use Rattle.xs_instr.specs.Did.{Did, Made, Paused, Traps, Idle}
use Rattle.xs_instr.specs.Slot.{trapped, pos_at}

-- the turn of thread t: a step leaves what it makes, with its record, and what it sends stands last in the outbox; a pause
-- and an idle turn change nothing; a trap halts the thread, and is told with its kind and the place of the thread's
-- instruction
abbrev pub IsTurn : Did CoreState → Home → CoreState → ℕ → DidAnswer → CoreState → List Sent → List Sent → Type 0
IsTurn (Made core made sent) home old t (DidMake told) new box box' = (new ≡ core) × (told ≡ made) × (box' ≡ box ++ sent)
IsTurn Paused home old t DidPause new box box' = (new ≡ old) × (box' ≡ box)
IsTurn (Traps kind) home old t (DidTrap trap pos) new box box' =
    (new ≡ trapped old t) × (trap ≡ kind) × (pos ≡ pos_at home (slice_get old.threads t)) × (box' ≡ box)
IsTurn Idle home old t DidRest new box box' = (new ≡ old) × (box' ≡ box)
IsTurn _ home old t _ new box box' = ⊥
