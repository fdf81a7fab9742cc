-- Ends that channels name.
use Rattle.std.proofs.Common.{◌≡◌, ℕ, zero, suc, ◌<◌, Bool, true, false, ◌&&◌, List, inl, inr, refl, sym, ap, ◌∙◌, arith}
use Rattle.std.proofs.lemmas.Bool.{cases_eq}
use Rattle.xr_assembly.specs.References.{are_named, is_named}
use Rattle.xs_instr.specs.declared.image.Pair.{Pair}

and_false : (a : Bool) → (a && false) ≡ false
and_false true = refl
and_false false = refl

-- where one end isn't named, not all are
pub not_all : (ps : List Pair) (c end e : ℕ) → end < e → is_named ps c end ≡ false → are_named ps c e ≡ false
not_all ps c end zero lt without = absurd (omega arith)
not_all ps c end (suc e) lt without =
    elim (cases_eq end e) [
      | inl s ↦ ap (λ k. are_named ps c e && is_named ps c k) (sym s) ∙ ap (λ b. are_named ps c e && b) without ∙ and_false (are_named ps c e)
      | inr l ↦ ap (λ b. b && is_named ps c e) (not_all ps c end e (omega arith) without)
    ]
