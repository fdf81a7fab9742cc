-- What holds of each alternative of a symbol.
use Rattle.std.proofs.Common.{◌≡◌, ℕ, zero, suc, List, [], ◌∷◌, slice_get, Some, subst}
use Rattle.xc_tree.specs.Grammar.{Rule}

infixr 20 ◌&◌
pub data EachRule {V : Type 0} (T : Rule V → Type 0) : List (Rule V) → Type 0 where
  none : EachRule T []
  ◌&◌ : {r : Rule V} {rs : List (Rule V)} → T r → EachRule T rs → EachRule T (r ∷ rs)

-- one of them
pub among_each : {V : Type 0} (T : Rule V → Type 0) (rs : List (Rule V)) (r : Rule V) (at : ℕ) → EachRule T rs → slice_get rs at ≡ Some r → T r
among_each T [] r at none e = absurd (cc)
among_each T (x ∷ rs) r zero (a & more) e = let g : x ≡ r = cc in subst T g a
among_each T (x ∷ rs) r (suc at) (a & more) e = among_each T rs r at more e
