-- The operators that need both their words.
use Rattle.std.proofs.Common.{◌≡◌, ℕ, Bool, Some, refl, ap}
use Rattle.xw_words.specs.declared.pos.Pos.{Pos}
use Rattle.xc_kernel.specs.Values as values
use Rattle.xc_kernel.specs.Meant.{operator_meant}
use Rattle.xc_inline.specs.Words.{word_in}
use Rattle.xc_kernel.specs.declared.operators.Operator.{Operator}
use Rattle.xc_kernel.specs.declared.operators.Operator.TheVariants.{And, Or}

-- an operator that needs both words
pub other_second : (o : Operator) (u : Bool) (pos : Pos) (a b : ℕ) (v : values.Value) → (o ≡ And → ⊥) → (o ≡ Or → ⊥) → Some b ≡ word_in v → values.with_second (operator_meant o) u pos a v ≡ values.of_two (operator_meant o) u pos a b
other_second And u pos a b v h k e = absurd (h refl)
other_second Or u pos a b v h k e = absurd (k refl)
other_second o u pos a b (values.error kind at) h k e = absurd (cc)
other_second o u pos a b (values.word c) h k e = let same : c ≡ b = cc in ap (λ x. values.of_two (operator_meant o) u pos a x) same
