-- A cell, as contracts see it.
use Rattle.std.specs.Prelude.{ℕ, zero, suc, ◌≡◌, Bool, false, Option, Some, None}
use Rattle.xr_board.specs.Inbox.{TwoPlaces, Fits, empty, placed, lacking}
use Rattle.xr_windows.specs.Parts.{IsPartOf, Standing as Part}
use Rattle.xr_windows.specs.Sending.{Sending}
use Rattle.xs_instr.specs.declared.image.Image.{Image}
use Rattle.xs_instr.specs.declared.image.Stim.{Stim}

-- A core's part, whether the stop mark is set, and what has come, by the number of the sender. A neighbour is at most one window
-- ahead, since it lacks a batch of this core until then, so two places for each core are enough. The places for the own core stay
-- empty by the type.
pub record CellState : Type 0 where
  pub part : Part
  pub stopped : Bool
  pub from0 : TwoPlaces
  pub from1 : TwoPlaces
  pub from2 : TwoPlaces
  pub from3 : TwoPlaces

-- nothing has come, and the stop mark isn't set
abbrev pub new_cell : Part → CellState
new_cell part = record { part = part; stopped = false; from0 = empty; from1 = empty; from2 = empty; from3 = empty }

-- core i's part of the run, and batches of the run to it
pub record IsCell (L : Image) (s : Stim) (n i : ℕ) (c : CellState) : Type 0 where
  pub number : c.part.home.number ≡ i
  pub part : IsPartOf L s n c.part
  pub from0 : Fits L s n 0 i c.part.ran c.from0
  pub from1 : Fits L s n 1 i c.part.ran c.from1
  pub from2 : Fits L s n 2 i c.part.ran c.from2
  pub from3 : Fits L s n 3 i c.part.ran c.from3

-- the least core other than core i whose batch of the window before isn't there
abbrev pub lacking_in : ℕ → CellState → Option ℕ
lacking_in i c = lacking i c.from0 c.from1 c.from2 c.from3

-- `accepted`, by cases
abbrev pub with0 : CellState → Option TwoPlaces → Option CellState
with0 c None = None
with0 c (Some p) = Some (record c { from0 = p })

-- `accepted`, by cases
abbrev pub with1 : CellState → Option TwoPlaces → Option CellState
with1 c None = None
with1 c (Some p) = Some (record c { from1 = p })

-- `accepted`, by cases
abbrev pub with2 : CellState → Option TwoPlaces → Option CellState
with2 c None = None
with2 c (Some p) = Some (record c { from2 = p })

-- `accepted`, by cases
abbrev pub with3 : CellState → Option TwoPlaces → Option CellState
with3 c None = None
with3 c (Some p) = Some (record c { from3 = p })

-- `accepted`, by the sender's number
abbrev pub accepted_from : CellState → Sending → ℕ → Option CellState
accepted_from c b zero = with0 c (placed c.from0 c.part.ran b)
accepted_from c b (suc zero) = with1 c (placed c.from1 c.part.ran b)
accepted_from c b (suc (suc zero)) = with2 c (placed c.from2 c.part.ran b)
accepted_from c b (suc (suc (suc j))) = with3 c (placed c.from3 c.part.ran b)

-- the cell with the batch in its place, where it has one that is empty
abbrev pub accepted : CellState → Sending → Option CellState
accepted c b = accepted_from c b b.from

-- the batch is put into its place; where it has none it is given back and nothing changes
abbrev pub IsAccepted : Option CellState → CellState → Sending → Option Sending → CellState → Type 0
IsAccepted (Some next) old b result new = (result ≡ None) × (new ≡ next)
IsAccepted None old b result new = (result ≡ Some b) × (new ≡ old)
