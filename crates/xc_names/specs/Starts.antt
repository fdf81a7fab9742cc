-- Where the marks of each item begin.
use Rattle.std.specs.Prelude.{◌≡◌, ℕ, ◌+◌, ◌≤◌, List, length, slice_get, Some}
use Rattle.xc_tree.specs.Plain.{Item}
use Rattle.xc_tree.specs.Names.Calls.{first_of}

-- for each item how many marks stand before it, and at the end how many there are
pub record AreStarts (program : List Item) (starts : List ℕ) : Type 0 where
  pub one_more : length starts ≡ length program + 1
  pub each : (k : ℕ) → k ≤ length program → slice_get starts k ≡ Some (first_of program k)
