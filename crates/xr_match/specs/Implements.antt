-- When an image implements a program.
use Rattle.std.specs.Prelude.{◌≡◌, ◌≤◌, ◌+◌, ◌*◌, ℕ, true, false, List, [], ◌∷◌, map, Some, None, slice_get, ◌↔◌}
use Rattle.xs_instr.specs.declared.image.Image.{Image}
use Rattle.xs_instr.specs.declared.image.Pair.{Pair}
use Rattle.xs_instr.specs.declared.image.Stim.{Stim}
use Rattle.xs_instr.specs.declared.state.ChanEnd.{ChanEnd}
use Rattle.xs_instr.specs.declared.state.CoreState.{CoreState}
use Rattle.xs_instr.specs.declared.state.Token.{Token}
use Rattle.xs_instr.specs.Machine.{Machine, Step, Tick, Move, does, runs}
use Rattle.xs_instr.specs.Valid.{IsGoodStim}
use Rattle.xc_meaning.specs.States.Channels.{Side, first, second}
use Rattle.xr_match.specs.Lives.{Watched, machine_of}
use Rattle.xr_match.specs.Sources.{Source, Counted, actions_of, allowed, counted_of}
use Rattle.xr_match.specs.Systems.{Refines}

-- every root has ended
abbrev pub AllRootsEnded : List CoreState → Type 0
AllRootsEnded [] = Unit {0}
AllRootsEnded (core ∷ cores) = (core.roots ≡ 0) × AllRootsEnded cores

abbrev pub clock_of : CoreState → ℕ
clock_of core = core.clock

-- a token that begins something on its channel: a data token or an OPEN, which is the control token 16
pub data Begins : Token → Type 0 where
  of_data : (byte : ℕ) → Begins (record { control = false; byte = byte })
  of_open : Begins (record { control = true; byte = 16 })

-- such a token stands at an end
pub record Arrives (m : Machine) (core end : ℕ) : Type 0 where
  pub of_core : CoreState
  pub at_core : slice_get m.cores core ≡ Some of_core
  pub of_end : ChanEnd
  pub at_end : slice_get of_core.ends end ≡ Some of_end
  pub place : ℕ
  pub token : Token
  pub stands : slice_get of_end.tokens place ≡ Some token
  pub begins : Begins token

-- the end of a line's first side, and of its second
abbrev pub ArrivesAt : Machine → Pair → Side → Type 0
ArrivesAt m pair first = Arrives m pair.core pair.end
ArrivesAt m pair second = Arrives m pair.peer_core pair.peer_end

-- Line k of a listing's channels is the k-th channel of the program that has two sides, its first end the first side.
abbrev pub ArrivalsAgree : Image → (P : Source) → Machine → P.State → Type 0
ArrivalsAgree L P m x =
    (line : ℕ) (pair : Pair) (side : Side) → slice_get L.chans line ≡ Some pair → ArrivesAt m pair side → P.HasArrived x line side

-- What is so on both sides at each moment: each core's clock and the trace are the same, whatever stands at an end of a channel has
-- arrived in the program, and both have ended or neither has.
pub record Agree (L : Image) (P : Source) (m : Machine) (x : P.State) : Type 0 where
  pub clocks : map clock_of m.cores ≡ P.clocks x
  pub trace : m.trace ≡ P.trace x
  pub arrivals : ArrivalsAgree L P m x
  pub ended : AllRootsEnded m.cores ↔ P.HasEnded x

abbrev pub AgreeNow : Image → (P : Source) → Watched → Counted P → Type 0
AgreeNow L P w x = Agree L P w.machine x.state

-- Under every good stimulus each run of the machine, whatever the order of its events, has a run of the program beside it, which is cut
-- into a first piece and one piece for each event.
pub record Implements (L : Image) (P : Source) : Type 0 where
  pub by : (s : Stim) → IsGoodStim s → Refines (machine_of L s) (counted_of P s) (AgreeNow L P)

-- What an image promises besides, once it promises all: that it waits only where the program does, and that it doesn't go on and on
-- without the program.

-- no thread's step and no move is enabled
pub record IsQuietMachine (L : Image) (s : Stim) (m : Machine) : Type 0 where
  pub steps : (core thread : ℕ) → does L s m (Step core thread) ≡ None
  pub moves : (from to : ℕ) → does L s m (Move from to) ≡ None

-- quiet behind the ticks of these cores, one after the other, where each is enabled
pub record IsQuietBehind (L : Image) (s : Stim) (m : Machine) (cores : List ℕ) : Type 0 where
  pub quiet : (later : Machine) → runs L s m (map Tick cores) ≡ Some later → IsQuietMachine L s later

-- Where the machine is quiet behind some ticks, so is the program behind the same, if it can do them. Without the ticks there would be
-- a run of the program of its own for each longer list of them. The premise is of the machine behind those ticks that it can do, so
-- whoever uses it need not look at the clocks.
abbrev pub QuietAgree : Image → (P : Source) → Stim → Machine → P.State → Type 0
QuietAgree L P s m x =
    (cores : List ℕ) → IsQuietBehind L s m cores → (y : P.State) → allowed P s x (map P.clock cores) ≡ Some y → P.IsQuiet s y

-- no life has done too many steps for its family
abbrev pub StepsAreBounded : (P : Source) → Watched → Counted P → Type 0
StepsAreBounded P w x =
    (core thread : ℕ) → (w.lives core thread).steps ≤ P.bound * (actions_of P x (w.lives core thread).family + 1)

-- all that is so at each moment
pub record AgreeWholly (L : Image) (P : Source) (s : Stim) (w : Watched) (x : Counted P) : Type 0 where
  pub agree : AgreeNow L P w x
  pub quiet : QuietAgree L P s w.machine x.state
  pub bounded : StepsAreBounded P w x

pub record ImplementsWholly (L : Image) (P : Source) : Type 0 where
  pub by : (s : Stim) → IsGoodStim s → Refines (machine_of L s) (counted_of P s) (AgreeWholly L P s)
