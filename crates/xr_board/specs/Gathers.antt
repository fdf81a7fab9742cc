-- What is gathered.
use Rattle.std.specs.Prelude.{ℕ, ◌≡◌, Option, Some, None, Result, Ok, Err}
use Rattle.xr_board.specs.Short.{short_in}
use Rattle.xr_board.specs.declared.cells.GatherErr.{GatherErr}
use Rattle.xr_board.specs.declared.cells.GatherErr.TheVariants.{Short, Memory}
use Rattle.xr_windows.specs.declared.run.Run.{Run}

-- core i and its first window that it hasn't run, or else what is said of the others
abbrev pub or_else : ℕ → Option ℕ → Option (ℕ × ℕ) → Option (ℕ × ℕ)
or_else i None rest = rest
or_else i (Some window) rest = Some (i, window)

-- the least core that hasn't run its last window, with the first window that it hasn't run
abbrev pub short_of : ℕ → ℕ → ℕ → ℕ → ℕ → Option (ℕ × ℕ)
short_of n a b c d =
    or_else 0 (short_in n a) (or_else 1 (short_in n b) (or_else 2 (short_in n c) (or_else 3 (short_in n d) None)))

-- short exactly where some core is; want of memory comes only where none is
abbrev pub IsGathered : Option (ℕ × ℕ) → Result Run GatherErr → Type 0
IsGathered (Some short) (Err (Short core window)) = (core ≡ short.0) × (window ≡ short.1)
IsGathered (Some short) (Err Memory) = ⊥
IsGathered (Some short) (Ok run) = ⊥
IsGathered None (Err (Short core window)) = ⊥
IsGathered None (Err Memory) = Unit {0}
IsGathered None (Ok run) = Unit {0}
