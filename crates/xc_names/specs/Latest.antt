-- Which declaration of each spelling was seen last.
use Rattle.std.specs.Prelude.{◌≡◌, ℕ, List, Option, nat_eq}
use Rattle.std.specs.Cmp.Lexicographic.{pointwise}
use Rattle.indexmap.specs.IndexMap.{get_by}
use Rattle.xc_names.specs.declared.latest.Latest.{Latest}

-- the place that is kept for a spelling
abbrev pub latest_of : Latest → List ℕ → Option ℕ
latest_of kept t = get_by (λ key. pointwise nat_eq t key.now) kept.places

-- but for one spelling, what is kept is as it was
abbrev pub OthersStay : Latest → Latest → List ℕ → Type 0
OthersStay old new t = (u : List ℕ) → (u ≡ t → ⊥) → latest_of new u ≡ latest_of old u
