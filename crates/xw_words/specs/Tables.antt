-- Rows of bytes in a table, by their places.
use Rattle.std.specs.Prelude.{ℕ, ◌+◌, if◌then◌else◌, List, [], ◌∷◌, Option, Some, None, bytes_eq}
use Rattle.std.specs.Borrow.{Bor}

-- the first place of a row of bytes in a table whose first place is k
unfoldable pub place_from : ℕ → List (List ℕ) → List ℕ → Option ℕ
place_from k [] w = None
place_from k (x ∷ xs) w = if bytes_eq x w then Some k else place_from (k + 1) xs w

-- the first place of a row of bytes in a table, from 0; none where it isn't there
abbrev pub place_in : List (List ℕ) → List ℕ → Option ℕ
place_in table w = place_from 0 table w

-- the rows of bytes of a table
abbrev pub texts : List (Bor (List ℕ)) → List (List ℕ)
texts [] = []
texts (w ∷ ws) = w.now ∷ texts ws
