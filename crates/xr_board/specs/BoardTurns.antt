-- What a turn on the board answers.
use Rattle.std.specs.Prelude.{ℕ, ◌+◌, ◌≡◌, ◌≢◌, ◌<◌, false, true, List, [], None}
use Rattle.xr_board.specs.CellState.{CellState, lacking_in}
use Rattle.xr_board.specs.Turns.{CanTry, HasLacked, HasRun}
use Rattle.xr_board.specs.declared.board.BoardTurn.{BoardTurn}
use Rattle.xr_board.specs.declared.board.BoardTurn.TheVariants.{Ran, Lacks, AtEnd, Stopped, Memory}
use Rattle.xr_windows.specs.Sending.{Sending}
use Rattle.xr_windows.specs.Windows.{windows_of}
use Rattle.xs_instr.specs.declared.image.Image.{Image}
use Rattle.xs_instr.specs.declared.image.Stim.{Stim}

-- no run has a window of a greater number
abbrev pub IsInRange : BoardTurn → Type 0
IsInRange (Ran window) = window < 25000
IsInRange (Lacks from window) = window < 25000
IsInRange AtEnd = Unit {0}
IsInRange Stopped = Unit {0}
IsInRange Memory = Unit {0}

-- An answer that core i of a run of n ticks can give: a window of the run, or another core's batch of a window that isn't the last
-- one. Another thread may take the lock before and after, so what a cell was like is known only within its lock, and out of it this
-- alone.
abbrev pub CanAnswer : ℕ → ℕ → BoardTurn → Type 0
CanAnswer n i (Ran window) = window < windows_of n
CanAnswer n i (Lacks from window) = (from < 4) × (from ≢ i) × (window + 1 < windows_of n)
CanAnswer n i AtEnd = Unit {0}
CanAnswer n i Stopped = Unit {0}
CanAnswer n i Memory = Unit {0}

-- what is answered of core i's cell, with the batches to be handed over, and what the cell is then. Want of memory may come in place of a
-- window alone
abbrev pub IsAnswer : Image → Stim → ℕ → ℕ → CellState → BoardTurn → List Sending → CellState → Type 0
IsAnswer L s n i old (Ran window) out new = (window ≡ old.part.ran) × HasRun L s n i old out new
IsAnswer L s n i old (Lacks from window) out new = (out ≡ []) × HasLacked n i old from window new
IsAnswer L s n i old AtEnd out new =
    (out ≡ []) × (old.stopped ≡ false) × (old.part.ran ≡ windows_of n) × (new ≡ old)
IsAnswer L s n i old Stopped out new = (out ≡ []) × (old.stopped ≡ true) × (new ≡ old)
IsAnswer L s n i old Memory out new =
    (out ≡ []) × CanTry n old × (0 < old.part.ran → lacking_in i old ≡ None) × (new ≡ old)
