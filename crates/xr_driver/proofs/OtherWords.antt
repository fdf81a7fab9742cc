-- Words of which the first isn't `run`, with three or more behind it.
use Rattle.std.proofs.Common.{◌≡◌, false, ℕ, List, [], ◌∷◌, length, refl, arith, map, subst, take, drop, ◌≤◌, ◌-◌}
use Rattle.std.specs.Prelude.{None, bytes_eq, codes, slice_index_or}
use Rattle.xr_driver.specs.Command.{means}

-- of words that the program holds
pub means_nothing : {A : Type 0} (text : A → List ℕ) (words : List A) (first d : A) → 1 ≤ length words → first ≡ slice_index_or words 0 d →
    bytes_eq (text first) (codes "run") ≡ false → 3 ≤ length (take (length words - 1) (drop 1 words)) → means (map text words) ≡ None
means_nothing text [] first d some is other many = absurd (omega (arith, some))
means_nothing text (x ∷ []) first d some is other many = absurd (omega (arith, many))
means_nothing text (x ∷ a ∷ []) first d some is other many = absurd (omega (arith, many))
means_nothing text (x ∷ a ∷ b ∷ []) first d some is other many = absurd (omega (arith, many))
means_nothing text (x ∷ a ∷ b ∷ c ∷ rest) first d some is other many =
    let no_run = subst (λ y. bytes_eq (text y) (codes "run") ≡ false) is other in rw no_run refl
