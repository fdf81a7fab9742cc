-- What the number of a route says of a thread that sets out on it.
use Rattle.std.specs.Prelude.{◌≡◌, ◌≤◌, ◌<◌, ℕ, suc, true, false, List, Some, slice_get}
use Rattle.xs_instr.specs.declared.image.Image.{Image}
use Rattle.xs_instr.specs.declared.image.Stim.{Stim}
use Rattle.xs_instr.specs.declared.instr.Instr.{Instr}
use Rattle.xs_instr.specs.declared.state.Thread.{Thread}
use Rattle.xf_time.specs.Bounds.{AreBounds, IsNumberOf, code_of, routes_of}
use Rattle.xf_time.specs.Routes.{is_at}
use Rattle.xf_time.specs.Steps.{Counts, Executes}
use Rattle.xf_time.specs.declared.form.Route.{Route}
use Rattle.xf_time.specs.declared.reader.RouteLine.{RouteLine}

-- in the round that follows n rounds thread t executes an instruction where the route begins, with its event bit clear, and behind it
-- still runs, at an index that isn't there
pub record SetsOut (L : Image) (s : Stim) (route : Route) (t n : ℕ) (after : Thread) : Type 0 where
  pub index : ℕ
  pub at_from : is_at (code_of L route.core) route.from index ≡ true
  pub instr : Instr
  pub executes : Executes L s route.core t n index instr after
  pub apart : is_at (code_of L route.core) route.from after.pc ≡ false

-- then in any number of rounds its steps to the place where the route ends are counted, and are no more than that
abbrev pub StepsWithin : Image → Stim → Route → (t n long : ℕ) → Thread → Type 0
StepsWithin L s route t n long after =
    (rounds : ℕ) → (counted : ℕ) ×
    Counts L s route.core t (is_at (code_of L route.core) route.to) rounds (suc n) after.pc route.backward counted × (counted ≤ long)

-- the number of a route bounds what a thread does that sets out on it
abbrev pub BoundsHold : Type 0
BoundsHold =
    (L : Image) (s : Stim) (route : Route) (t n long : ℕ) (after : Thread) → route.core < 4 → t < 8 → IsNumberOf L route long →
    SetsOut L s route t n after → StepsWithin L s route t n long after

-- each of these numbers does so for the route of its place in the text, under every stimulus
abbrev pub AreKept : Image → (text numbers : List ℕ) → Type 0
AreKept L text numbers =
    (s : Stim) (k : ℕ) (r : RouteLine) (t n long : ℕ) (after : Thread) → slice_get (routes_of text) k ≡ Some r →
    slice_get numbers k ≡ Some long → t < 8 → SetsOut L s r.route t n after → StepsWithin L s r.route t n long after

-- the bounds of a text's routes do
abbrev pub NumbersHold : Type 0
NumbersHold = (L : Image) (text numbers : List ℕ) → AreBounds L text numbers → AreKept L text numbers
