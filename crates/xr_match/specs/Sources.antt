-- What a program means, as far as an image has to do with it: its states and actions, and what can be seen of a state.
use Rattle.std.specs.Prelude.{ℕ, ◌+◌, List, Option, Some, None}
use Rattle.xs_instr.specs.declared.image.Stim.{Stim}
use Rattle.xs_instr.specs.declared.trace.Record.{Record}
use Rattle.xs_instr.specs.Machine.{and_then}
use Rattle.xc_meaning.specs.States.Channels.{Side}
use Rattle.xc_meaning.specs.Counts.Families.{counted_for}
use Rattle.xr_match.specs.Lives.{Family}
use Rattle.xr_match.specs.Systems.{System, leads}

pub record Source : Type 1 where
  pub State : Type 0
  pub Action : Type 0
  pub start : State
  -- what an action leaves, where it is possible under a stimulus
  pub acts : Stim → State → Action → Option State
  -- the step of a core's clock
  pub clock : (core : ℕ) → Action
  pub clocks : State → List ℕ
  pub trace : State → List Record
  -- each branch has ended
  pub HasEnded : State → Type 0
  -- something stands in the inbox of a side of a channel, by the channel's place among those with two sides
  pub HasArrived : State → (channel : ℕ) → Side → Type 0
  -- nothing is possible but what a quiet program may still do
  pub IsQuiet : Stim → State → Type 0
  -- the number of the family whose action this is, and of the one with a name where it is there
  pub mover : State → Action → Option ℕ
  pub family_number : State → Family → Option ℕ
  -- how many steps a life may do for each action of its family, and as many once more
  pub bound : ℕ

-- the program under a stimulus
abbrev pub program_of : Source → Stim → System
program_of P s = record { State = P.State; Step = P.Action; start = P.start; next = λ x a. P.acts s x a }

-- where a list of actions leads, each possible where it stands
abbrev pub allowed : (P : Source) → Stim → P.State → List P.Action → Option P.State
allowed P s x actions = leads (program_of P s) x actions

-- a state, and how many actions each family has done
pub record Counted (P : Source) : Type 0 where
  pub state : P.State
  pub actions : (family : ℕ) → ℕ

abbrev pub counted_start : (P : Source) → Counted P
counted_start P = record { state = P.start; actions = λ family. 0 }

abbrev pub counted_after : (P : Source) → Counted P → P.Action → P.State → Counted P
counted_after P x action y =
    record { state = y; actions = λ family. x.actions family + counted_for family (P.mover x.state action) }

-- the program under a stimulus, with the actions of its families
abbrev pub counted_of : Source → Stim → System
counted_of P s = record {
  State = Counted P;
  Step = P.Action;
  start = counted_start P;
  next = λ x action. and_then (P.acts s x.state action) (λ y. Some (counted_after P x action y));
}

-- the actions that a family has done; one that has no name, or isn't there yet, has done none
abbrev pub actions_by : (P : Source) → Counted P → Option ℕ → ℕ
actions_by P x None = 0
actions_by P x (Some family) = x.actions family

abbrev pub actions_of : (P : Source) → Counted P → Option Family → ℕ
actions_of P x family = actions_by P x (and_then family (P.family_number x.state))
