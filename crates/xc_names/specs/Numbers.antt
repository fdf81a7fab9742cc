-- The numbers of declarations.
use Rattle.std.specs.Prelude.{◌≡◌, ℕ, ◌<◌, List, length, slice_get, Option, Some, None}
use Rattle.xc_tree.specs.declared.names.Mark.{Mark}
use Rattle.xc_tree.specs.declared.names.Mark.TheVariants.{Opens, Closes, Declares, Uses, Calls}
use Rattle.xc_tree.specs.Names.Uses.{number_of}

-- for each place before k how many names are declared before it
pub record AreNumbers (ms : List Mark) (numbers : List ℕ) (k : ℕ) : Type 0 where
  pub count : length numbers ≡ k
  pub each : (i : ℕ) → i < k → slice_get numbers i ≡ Some (number_of ms i)

-- how many names a mark declares
abbrev pub count_in : Mark → ℕ
count_in Opens = 0
count_in Closes = 0
count_in (Declares d) = 1
count_in (Uses n) = 0
count_in (Calls n) = 0

-- the place of the declaration that a mark's name stands for
abbrev pub entry_of : Mark → ℕ → Option ℕ → Option ℕ
entry_of Opens i meant = None
entry_of Closes i meant = None
entry_of (Declares d) i meant = Some i
entry_of (Uses n) i meant = meant
entry_of (Calls n) i meant = meant
