-- A turn that was taken is the turn of the definitions.
use Rattle.std.proofs.Common.{◌≡◌, ℕ, Bool, true, false, refl, List, [], ◌∷◌, ◌++◌, ap, ◌∙◌}
use Rattle.xs_instr.specs.declared.image.Home.{Home}
use Rattle.xs_instr.specs.declared.state.CoreState.{CoreState}
use Rattle.xs_instr.specs.declared.state.Sent.{Sent}
use Rattle.xs_instr.specs.declared.trace.Record.{Record}
use Rattle.xs_instr.specs.declared.trace.Record.TheVariants.{Fault}
use Rattle.xs_instr.specs.Did.{Did, Made, Paused, Traps, Idle, is_step}
use Rattle.xs_instr.specs.Machine.{noted}
use Rattle.xs_instr.specs.Slot.{is_ready, slot}
use Rattle.xs_core.specs.declared.did.Did.{Did as Answer}
use Rattle.xs_core.specs.declared.did.Did.TheVariants.{Made as DidMake, Paused as DidPause, Trapped as DidTrap, Idle as DidRest}
use Rattle.xs_core.specs.Slots.{IsTurn}
use Rattle.xs_fabric.specs.Lockstep.{Part, after, turn}

-- the trace after an answer of core c
abbrev pub told_by : ℕ → List Record → Answer → List Record
told_by c trace (DidMake made) = noted trace made
told_by c trace DidPause = trace
told_by c trace (DidTrap kind pos) = trace ++ Fault c pos kind ∷ []
told_by c trace DidRest = trace

abbrev pub parts : CoreState → List Record → List Sent → Part
parts core made sent = record { core = core; made = made; sent = sent }

after_is : (home : Home) (old new : CoreState) (t : ℕ) (trace : List Record) (box box' : List Sent) (d : Did CoreState) (answer : Answer) → IsTurn d home old t answer new box box' → parts new (told_by home.number trace answer) box' ≡ after home (parts old trace box) t d
after_is home old new t trace box box' (Made core made sent) (DidMake told) h = let a = h.0 in let b = h.1 in let c = h.2 in cc
after_is home old new t trace box box' Paused DidPause h = let a = h.0 in let b = h.1 in cc
after_is home old new t trace box box' (Traps kind) (DidTrap trap pos) h = let a = h.0 in let b = h.1 in let c = h.2 in let e = h.3 in cc
after_is home old new t trace box box' Idle DidRest h = let a = h.0 in let b = h.1 in cc
after_is home old new t trace box box' (Made core made sent) DidPause h = absurd h
after_is home old new t trace box box' (Made core made sent) (DidTrap trap pos) h = absurd h
after_is home old new t trace box box' (Made core made sent) DidRest h = absurd h
after_is home old new t trace box box' Paused (DidMake told) h = absurd h
after_is home old new t trace box box' Paused (DidTrap trap pos) h = absurd h
after_is home old new t trace box box' Paused DidRest h = absurd h
after_is home old new t trace box box' (Traps kind) (DidMake told) h = absurd h
after_is home old new t trace box box' (Traps kind) DidPause h = absurd h
after_is home old new t trace box box' (Traps kind) DidRest h = absurd h
after_is home old new t trace box box' Idle (DidMake told) h = absurd h
after_is home old new t trace box box' Idle DidPause h = absurd h
after_is home old new t trace box box' Idle (DidTrap trap pos) h = absurd h

pub turn_is : (home : Home) (old new : CoreState) (t : ℕ) (trace trace' : List Record) (box box' : List Sent) (answer : Answer) → IsTurn (slot home old t) home old t answer new box box' → trace' ≡ told_by home.number trace answer → parts new trace' box' ≡ turn home (parts old trace box) t
unfolding turn
turn_is home old new t trace trace' box box' answer h e =
    ap (λ x. parts new x box') e ∙ after_is home old new t trace box box' (slot home old t) answer h

-- whether an answer tells of a step
abbrev pub stepped_by : Answer → Bool
stepped_by (DidMake made) = true
stepped_by DidPause = false
stepped_by (DidTrap kind pos) = true
stepped_by DidRest = false

-- by the kind of the turn
step_is_told : (home : Home) (old new : CoreState) (t : ℕ) (box box' : List Sent) (d : Did CoreState) (answer : Answer) →
    IsTurn d home old t answer new box box' → stepped_by answer ≡ is_step d
step_is_told home old new t box box' (Made core made sent) (DidMake told) h = refl
step_is_told home old new t box box' Paused DidPause h = refl
step_is_told home old new t box box' (Traps kind) (DidTrap trap pos) h = refl
step_is_told home old new t box box' Idle DidRest h = refl
step_is_told home old new t box box' (Made core made sent) DidPause h = absurd h
step_is_told home old new t box box' (Made core made sent) (DidTrap trap pos) h = absurd h
step_is_told home old new t box box' (Made core made sent) DidRest h = absurd h
step_is_told home old new t box box' Paused (DidMake told) h = absurd h
step_is_told home old new t box box' Paused (DidTrap trap pos) h = absurd h
step_is_told home old new t box box' Paused DidRest h = absurd h
step_is_told home old new t box box' (Traps kind) (DidMake told) h = absurd h
step_is_told home old new t box box' (Traps kind) DidPause h = absurd h
step_is_told home old new t box box' (Traps kind) DidRest h = absurd h
step_is_told home old new t box box' Idle (DidMake told) h = absurd h
step_is_told home old new t box box' Idle DidPause h = absurd h
step_is_told home old new t box box' Idle (DidTrap trap pos) h = absurd h

-- it does exactly where the thread was ready
pub steps_as : (home : Home) (old new : CoreState) (t : ℕ) (box box' : List Sent) (answer : Answer) →
    IsTurn (slot home old t) home old t answer new box box' → stepped_by answer ≡ is_ready home old t
steps_as home old new t box box' answer h = step_is_told home old new t box box' (slot home old t) answer h
