-- What implementing says in the words of runs: each run of the machine has a run of the program that matches it.
use Rattle.std.specs.Prelude.{◌≡◌, ◌≤◌, ◌+◌, ◌*◌, ℕ, List, [], ◌∷◌, ◌++◌, Option, Some, None}
use Rattle.xs_instr.specs.declared.image.Image.{Image}
use Rattle.xs_instr.specs.declared.image.Stim.{Stim}
use Rattle.xs_instr.specs.Machine.{Machine, Event, and_then, boot, does, runs}
use Rattle.xs_instr.specs.Valid.{IsGoodStim}
use Rattle.xc_tree.specs.Plain as tree
use Rattle.xc_kernel.specs.Copies.{copy_of}
use Rattle.xc_kernel.specs.Plain as kernel
use Rattle.xc_meaning.specs.Counts.Families.{steps_of}
use Rattle.xc_meaning.specs.Counts.TextCounts.{program_bound}
use Rattle.xc_meaning.specs.Runs.{acts_all, program_run, program_start}
use Rattle.xc_meaning.specs.States.Worlds.{World, Action}
use Rattle.xr_match.specs.Implements.{Agree, Implements, ImplementsWholly, QuietAgree}
use Rattle.xr_match.specs.Lives.{Watched, machine_of, watched_start}
use Rattle.xr_match.specs.Meanings.{family_in, of_text, of_worlds}
use Rattle.xr_match.specs.Sources.{Counted, counted_of, counted_start}
use Rattle.xr_match.specs.Systems.{SomeIs, concat, leads}

-- The machine and the program stand in a relation now, and again behind each event and its piece of the program's run.
abbrev pub MatchAlong :
    (Machine → World → Type 0) → Image → List tree.Item → Stim → Machine → World → List Event → List (List Action) → Type 0
MatchAlong R L P s m x [] [] = R m x
MatchAlong R L P s m x (event ∷ events) (piece ∷ pieces) =
    R m x × SomeIs (does L s m event) (λ n. SomeIs (acts_all (copy_of P) s (Some x) piece) (λ y. MatchAlong R L P s n y events pieces))
MatchAlong R L P s m x [] (piece ∷ pieces) = ⊥
MatchAlong R L P s m x (event ∷ events) [] = ⊥

-- A run of the program beside the events that led the machine from its start to m. It is cut into a first piece and one for each event,
-- the two stand in the relation after the first piece and after each event and its piece, and so they do in the end.
pub record MatchingRun (R : Machine → World → Type 0) (L : Image) (P : List tree.Item) (s : Stim) (events : List Event) (m : Machine) :
    Type 0 where
  pub first : List Action
  pub pieces : List (List Action)
  pub along : SomeIs (program_run P s first) (λ x. MatchAlong R L P s (boot L) x events pieces)
  pub state : World
  pub is_run : program_run P s (first ++ concat pieces) ≡ Some state
  pub last : R m state

-- Where an image implements a program, each run of the machine under a good stimulus, whatever the order of its events, has such a run of
-- the program, and the two agree at each moment.
abbrev pub RunsMatch : Type 0
RunsMatch =
    (L : Image) (P : List tree.Item) (s : Stim) → Implements L (of_text P) → IsGoodStim s →
    (events : List Event) (m : Machine) → runs L s (boot L) events ≡ Some m → MatchingRun (Agree L (of_text P)) L P s events m

-- the two agree, and the program waits where the machine does, behind any ticks of both
pub record AgreeQuietly (L : Image) (P : List tree.Item) (s : Stim) (m : Machine) (x : World) : Type 0 where
  pub agree : Agree L (of_text P) m x
  pub quiet : QuietAgree L (of_text P) s m x

-- so many steps the branches of a family do in a list of actions from the program's start; one that isn't there does none
abbrev pub steps_by : List tree.Item → Stim → List Action → Option ℕ → ℕ
steps_by P s actions None = 0
steps_by P s actions (Some family) = steps_of (copy_of P) s family (Some (program_start P)) actions

-- no life of a thread does more steps in these events than a constant of the program for each step of its family, and as many once more
abbrev pub LivesAreBounded : Image → List tree.Item → Stim → List Event → List Action → World → Type 0
LivesAreBounded L P s events actions x =
    (w : Watched) → leads (machine_of L s) (watched_start L) events ≡ Some w → (core thread : ℕ) →
    (w.lives core thread).steps ≤
    program_bound P * (steps_by P s actions (and_then (w.lives core thread).family (family_in (copy_of P) x)) + 1)

pub record WholeMatchingRun (L : Image) (P : List tree.Item) (s : Stim) (events : List Event) (m : Machine) : Type 0 where
  pub run : MatchingRun (AgreeQuietly L P s) L P s events m
  pub bounded : LivesAreBounded L P s events (run.first ++ concat run.pieces) run.state

-- Where it implements it wholly, the program waits besides wherever the machine does, at each moment, and in the end the lives of threads
-- are bounded.
abbrev pub RunsMatchWholly : Type 0
RunsMatchWholly =
    (L : Image) (P : List tree.Item) (s : Stim) → ImplementsWholly L (of_text P) → IsGoodStim s →
    (events : List Event) (m : Machine) → runs L s (boot L) events ≡ Some m → WholeMatchingRun L P s events m

-- What is counted of a family beside a run is how many steps it does in the run.
abbrev pub CountsAreSteps : Type 0
CountsAreSteps =
    (K : kernel.Kernel) (s : Stim) (start : World) (bound : ℕ) (actions : List Action) (z : Counted (of_worlds K start bound)) →
    leads (counted_of (of_worlds K start bound) s) (counted_start (of_worlds K start bound)) actions ≡ Some z →
    (family : ℕ) → z.actions family ≡ steps_of K s family (Some start) actions
