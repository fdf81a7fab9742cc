-- The numbers of functions by their names.
use Rattle.std.specs.Prelude.{◌≡◌, ℕ, List, Option, nat_eq}
use Rattle.std.specs.Cmp.Lexicographic.{pointwise}
use Rattle.indexmap.specs.IndexMap.{get_by}
use Rattle.xc_size.specs.declared.names.Names.{Names}

-- the number that a name has
abbrev pub number_of : Names → List ℕ → Option ℕ
number_of names t = get_by (λ key. pointwise nat_eq t key.now) names.numbers

-- but for one name, each has the number that it had
abbrev pub OthersStay : Names → Names → List ℕ → Type 0
OthersStay old new t = (u : List ℕ) → (u ≡ t → ⊥) → number_of new u ≡ number_of old u
