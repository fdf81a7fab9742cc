-- What contracts see of a machine.
use Rattle.std.specs.Prelude.{◌≡◌, ℕ, Bool, true, false, List, [], ◌∷◌, map, Option, Some, None}
use Rattle.xs_core.specs.Core.{Seen as Core}
use Rattle.xs_instr.specs.declared.image.Home.{Home}
use Rattle.xs_instr.specs.declared.image.Image.{Image}
use Rattle.xs_instr.specs.declared.image.Stim.{Stim}
use Rattle.xs_instr.specs.declared.state.CoreState.{CoreState}
use Rattle.xs_instr.specs.declared.trace.Record.{Record}
use Rattle.xs_instr.specs.Machine.{Machine as State, home_of, boot}
use Rattle.xs_fabric.specs.Rounds.{Links}
use Rattle.xs_fabric.specs.declared.machine.Event.{Event}
use Rattle.xs_fabric.specs.declared.machine.Event.TheVariants.{Done, NotEnabled}

-- what no event changes of the machine's cores, its state, and for how many more records there is room
pub record Running : Type 0 where
  pub homes : List Home
  pub state : State
  pub room : ℕ

abbrev pub home_in : Core → Home
home_in core = core.home

abbrev pub state_in : Core → CoreState
state_in core = core.state

-- the four cores, their links and what was recorded
abbrev pub together : List Core → Links → List Record → State
together cores links trace = record { cores = map state_in cores; links = links; trace = trace }

-- what no event changes of the four cores of an image's run under a stimulus
abbrev pub homes : Image → Stim → List Home
homes L s = home_of L s 0 ∷ home_of L s 1 ∷ home_of L s 2 ∷ home_of L s 3 ∷ []

-- the machine runs this image under this stimulus
abbrev pub IsRunOf : Image → Stim → Running → Type 0
IsRunOf L s machine = machine.homes ≡ homes L s

-- a machine as it starts
pub record IsBooted (L : Image) (s : Stim) (machine : Running) : Type 0 where
  pub of : IsRunOf L s machine
  pub state : machine.state ≡ boot L

-- an event that is enabled is done, and another one changes nothing
abbrev pub IsEvent : Option State → State → Event → State → Type 0
IsEvent (Some next) old Done new = new ≡ next
IsEvent None old NotEnabled new = new ≡ old
IsEvent (Some next) old NotEnabled new = ⊥
IsEvent None old Done new = ⊥

-- the answer where an event was enabled, or was not
abbrev pub answer_of : Bool → Event
answer_of true = Done
answer_of false = NotEnabled
