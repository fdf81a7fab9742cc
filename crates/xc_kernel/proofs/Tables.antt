-- The operator at a place of the table, and past it.
use Rattle.std.proofs.Common.{◌≡◌, ℕ, zero, suc, ◌<◌, ◌≤◌, List, [], ◌∷◌, length, map, get_or, arith, refl}
use Rattle.xc_kernel.specs.Operators.{no_operator}
use Rattle.xc_kernel.specs.Meant.{operator_meant}
use Rattle.xc_kernel.specs.declared.operators.Operator.{Operator}

pub operator_there : (xs : List Operator) (i : ℕ) (d : Operator) → i < length xs → operator_meant (get_or xs i d) ≡ get_or (map operator_meant xs) i no_operator
operator_there [] i d h = absurd (omega (arith, h))
operator_there (x ∷ xs) zero d h = refl
operator_there (x ∷ xs) (suc i) d h = operator_there xs i d (omega (arith, h))

pub operator_past : {X : Type 0} (xs : List X) (i : ℕ) (d : X) → length xs ≤ i → get_or xs i d ≡ d
operator_past [] i d h = refl
operator_past (x ∷ xs) zero d h = absurd (omega (arith, h))
operator_past (x ∷ xs) (suc i) d h = operator_past xs i d (omega (arith, h))
