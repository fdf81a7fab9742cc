-- The identifiers of ports that are taken on a core.
use Rattle.std.specs.Prelude.{◌≡◌, ℕ, Bool, true, false, ◌&&◌, if◌then◌else◌, List, [], ◌∷◌, nat_eq}
use Rattle.std.specs.Borrow.{Bor}
use Rattle.std.specs.Cmp.Lexicographic.{pointwise}
use Rattle.indexmap.specs.IndexSet.{contains_by}
use Rattle.xc_names.specs.declared.taken.Taken.{Taken}

-- whether an identifier is taken on a core
abbrev pub is_taken : Taken → List ℕ → ℕ → Bool
is_taken taken t core = contains_by (λ key. pointwise nat_eq t (key.0).now && nat_eq core key.1) taken.keys

-- but for one identifier on one core, what is taken is as it was
abbrev pub OthersStay : Taken → Taken → List ℕ → ℕ → Type 0
OthersStay old new t core =
    (u : List ℕ) (c : ℕ) → (u ≡ t → c ≡ core → ⊥) → is_taken new u c ≡ is_taken old u c

-- whether a row of bytes is one of some
unfoldable pub is_among : List (List ℕ) → List ℕ → Bool
is_among [] w = false
is_among (x ∷ xs) w = if pointwise nat_eq x w then true else is_among xs w

-- the rows of bytes of a table
abbrev pub texts : List (Bor (List ℕ)) → List (List ℕ)
texts [] = []
texts (w ∷ ws) = w.now ∷ texts ws
