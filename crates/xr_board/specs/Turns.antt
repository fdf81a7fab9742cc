-- A cell's turn.
use Rattle.std.specs.Prelude.{ℕ, ◌+◌, ◌≡◌, ◌<◌, true, false, List, Some, None}
use Rattle.xr_board.specs.CellState.{CellState, lacking_in}
use Rattle.xr_board.specs.Inbox.{moved_up}
use Rattle.xr_board.specs.declared.turned.Turned.{Turned}
use Rattle.xr_board.specs.declared.turned.Turned.TheVariants.{Ran, Lacks, AtEnd, Stopped, Memory}
use Rattle.xr_windows.specs.Sending.{Sending, batches_from}
use Rattle.xr_windows.specs.Windows.{windows_of}
use Rattle.xs_instr.specs.declared.image.Image.{Image}
use Rattle.xs_instr.specs.declared.image.Stim.{Stim}

-- the next window may be tried: the stop mark isn't set, and a window is left
pub record CanTry (n : ℕ) (old : CellState) : Type 0 where
  pub goes : old.stopped ≡ false
  pub left : old.part.ran < windows_of n

-- the cell is one window further; what it is then, its type says
pub record WentOn (old new : CellState) : Type 0 where
  pub ran : new.part.ran ≡ old.part.ran + 1
  pub stopped : new.stopped ≡ old.stopped
  pub from0 : new.from0 ≡ moved_up old.from0
  pub from1 : new.from1 ≡ moved_up old.from1
  pub from2 : new.from2 ≡ moved_up old.from2
  pub from3 : new.from3 ≡ moved_up old.from3

-- the next window was run: all that it needs was there, and it gave the run's batches of it
pub record HasRun (L : Image) (s : Stim) (n i : ℕ) (old : CellState) (out : List Sending) (new : CellState) : Type 0 where
  pub can : CanTry n old
  pub there : 0 < old.part.ran → lacking_in i old ≡ None
  pub sent : out ≡ batches_from L s n i old.part.ran
  pub on : WentOn old new

-- the next window wasn't run, for that core's batch of the window before isn't there
pub record HasLacked (n i : ℕ) (old : CellState) (from window : ℕ) (new : CellState) : Type 0 where
  pub can : CanTry n old
  pub before : window + 1 ≡ old.part.ran
  pub lacks : lacking_in i old ≡ Some from
  pub kept : new ≡ old

-- what core i's cell answers and what it is then. Want of memory may come in place of a window alone
abbrev pub IsTurn : {U : _} → Image → Stim → ℕ → ℕ → CellState → Turned U → CellState → Type 0
IsTurn L s n i old (Ran out) new = HasRun L s n i old out new
IsTurn L s n i old (Lacks from window) new = HasLacked n i old from window new
IsTurn L s n i old AtEnd new = (old.stopped ≡ false) × (old.part.ran ≡ windows_of n) × (new ≡ old)
IsTurn L s n i old Stopped new = (old.stopped ≡ true) × (new ≡ old)
IsTurn L s n i old Memory new = CanTry n old × (0 < old.part.ran → lacking_in i old ≡ None) × (new ≡ old)
