-- Where scopes end, as a walk from the end of the marks finds it.
use Rattle.std.specs.Prelude.{◌≡◌, ℕ, ◌-◌, ◌<◌, List, [], ◌∷◌, ◌++◌, length, take, slice_get, get_or, Some}
use Rattle.xc_tree.specs.declared.names.Mark.{Mark}
use Rattle.xc_tree.specs.declared.names.Mark.TheVariants.{Opens, Closes, Declares, Uses, Calls}
use Rattle.xc_tree.specs.Names.Scopes.{end_of}

-- for each place where the innermost scope around it ends
pub record AreEnds (ms : List Mark) (ends : List ℕ) : Type 0 where
  pub one_each : length ends ≡ length ms
  pub each : (i : ℕ) → i < length ms → slice_get ends i ≡ Some (end_of ms i)

-- where the scopes end that are open before a mark, the innermost last, by where those end that are open behind it
abbrev pub open_before : Mark → ℕ → List ℕ → List ℕ
open_before Opens at later = take (length later - 1) later
open_before Closes at later = later ++ at ∷ []
open_before (Declares d) at later = later
open_before (Uses n) at later = later
open_before (Calls n) at later = later

-- the last of a list, or this
abbrev pub last_or : ℕ → List ℕ → ℕ
last_or n xs = get_or xs (length xs - 1) n
