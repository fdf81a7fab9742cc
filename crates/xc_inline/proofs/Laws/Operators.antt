-- Operators by the places of their symbols.
use Rattle.std.proofs.Common.{◌≡◌, ℕ, zero, suc, ◌<◌, Bool, true, false, ◌||◌, List, [], ◌∷◌, nat_eq, arith, refl}
use Rattle.std.specs.List.{list_any}
use Rattle.xc_kernel.specs.Operators.{operator_at}
use Rattle.xc_kernel.specs.Types.{operation_is_unsigned, result_is_unsigned, sign_is_unsigned}
use Rattle.xc_kernel.specs.Operators as operator
use Rattle.xc_inline.specs.Truths.{is_truth}

-- an operator that is no shift
pub plain_operation : (s : ℕ) (a b : Bool) → (s ≡ 33 → ⊥) → (s ≡ 34 → ⊥) → operation_is_unsigned (operator_at s) a b ≡ (a || b)
plain_operation zero a b h k = refl
plain_operation (suc zero) a b h k = refl
plain_operation (suc (suc zero)) a b h k = refl
plain_operation (suc (suc (suc zero))) a b h k = refl
plain_operation (suc (suc (suc (suc zero)))) a b h k = refl
plain_operation (suc (suc (suc (suc (suc zero))))) a b h k = refl
plain_operation (suc (suc (suc (suc (suc (suc zero)))))) a b h k = refl
plain_operation (suc (suc (suc (suc (suc (suc (suc zero))))))) a b h k = refl
plain_operation (suc (suc (suc (suc (suc (suc (suc (suc zero)))))))) a b h k = refl
plain_operation (suc (suc (suc (suc (suc (suc (suc (suc (suc zero))))))))) a b h k = refl
plain_operation (suc (suc (suc (suc (suc (suc (suc (suc (suc (suc zero)))))))))) a b h k = refl
plain_operation (suc (suc (suc (suc (suc (suc (suc (suc (suc (suc (suc zero))))))))))) a b h k = refl
plain_operation (suc (suc (suc (suc (suc (suc (suc (suc (suc (suc (suc (suc zero)))))))))))) a b h k = refl
plain_operation (suc (suc (suc (suc (suc (suc (suc (suc (suc (suc (suc (suc (suc zero))))))))))))) a b h k = refl
plain_operation (suc (suc (suc (suc (suc (suc (suc (suc (suc (suc (suc (suc (suc (suc zero)))))))))))))) a b h k = refl
plain_operation (suc (suc (suc (suc (suc (suc (suc (suc (suc (suc (suc (suc (suc (suc (suc zero))))))))))))))) a b h k = refl
plain_operation (suc (suc (suc (suc (suc (suc (suc (suc (suc (suc (suc (suc (suc (suc (suc (suc zero)))))))))))))))) a b h k = refl
plain_operation (suc (suc (suc (suc (suc (suc (suc (suc (suc (suc (suc (suc (suc (suc (suc (suc (suc zero))))))))))))))))) a b h k = refl
plain_operation (suc (suc (suc (suc (suc (suc (suc (suc (suc (suc (suc (suc (suc (suc (suc (suc (suc (suc zero)))))))))))))))))) a b h k = refl
plain_operation (suc (suc (suc (suc (suc (suc (suc (suc (suc (suc (suc (suc (suc (suc (suc (suc (suc (suc (suc zero))))))))))))))))))) a b h k = refl
plain_operation (suc (suc (suc (suc (suc (suc (suc (suc (suc (suc (suc (suc (suc (suc (suc (suc (suc (suc (suc (suc zero)))))))))))))))))))) a b h k = refl
plain_operation (suc (suc (suc (suc (suc (suc (suc (suc (suc (suc (suc (suc (suc (suc (suc (suc (suc (suc (suc (suc (suc zero))))))))))))))))))))) a b h k = refl
plain_operation (suc (suc (suc (suc (suc (suc (suc (suc (suc (suc (suc (suc (suc (suc (suc (suc (suc (suc (suc (suc (suc (suc zero)))))))))))))))))))))) a b h k = refl
plain_operation (suc (suc (suc (suc (suc (suc (suc (suc (suc (suc (suc (suc (suc (suc (suc (suc (suc (suc (suc (suc (suc (suc (suc zero))))))))))))))))))))))) a b h k = refl
plain_operation (suc (suc (suc (suc (suc (suc (suc (suc (suc (suc (suc (suc (suc (suc (suc (suc (suc (suc (suc (suc (suc (suc (suc (suc zero)))))))))))))))))))))))) a b h k = refl
plain_operation (suc (suc (suc (suc (suc (suc (suc (suc (suc (suc (suc (suc (suc (suc (suc (suc (suc (suc (suc (suc (suc (suc (suc (suc (suc zero))))))))))))))))))))))))) a b h k = refl
plain_operation (suc (suc (suc (suc (suc (suc (suc (suc (suc (suc (suc (suc (suc (suc (suc (suc (suc (suc (suc (suc (suc (suc (suc (suc (suc (suc zero)))))))))))))))))))))))))) a b h k = refl
plain_operation (suc (suc (suc (suc (suc (suc (suc (suc (suc (suc (suc (suc (suc (suc (suc (suc (suc (suc (suc (suc (suc (suc (suc (suc (suc (suc (suc zero))))))))))))))))))))))))))) a b h k = refl
plain_operation (suc (suc (suc (suc (suc (suc (suc (suc (suc (suc (suc (suc (suc (suc (suc (suc (suc (suc (suc (suc (suc (suc (suc (suc (suc (suc (suc (suc zero)))))))))))))))))))))))))))) a b h k = refl
plain_operation (suc (suc (suc (suc (suc (suc (suc (suc (suc (suc (suc (suc (suc (suc (suc (suc (suc (suc (suc (suc (suc (suc (suc (suc (suc (suc (suc (suc (suc zero))))))))))))))))))))))))))))) a b h k = refl
plain_operation (suc (suc (suc (suc (suc (suc (suc (suc (suc (suc (suc (suc (suc (suc (suc (suc (suc (suc (suc (suc (suc (suc (suc (suc (suc (suc (suc (suc (suc (suc zero)))))))))))))))))))))))))))))) a b h k = refl
plain_operation (suc (suc (suc (suc (suc (suc (suc (suc (suc (suc (suc (suc (suc (suc (suc (suc (suc (suc (suc (suc (suc (suc (suc (suc (suc (suc (suc (suc (suc (suc (suc zero))))))))))))))))))))))))))))))) a b h k = refl
plain_operation (suc (suc (suc (suc (suc (suc (suc (suc (suc (suc (suc (suc (suc (suc (suc (suc (suc (suc (suc (suc (suc (suc (suc (suc (suc (suc (suc (suc (suc (suc (suc (suc zero)))))))))))))))))))))))))))))))) a b h k = refl
plain_operation (suc (suc (suc (suc (suc (suc (suc (suc (suc (suc (suc (suc (suc (suc (suc (suc (suc (suc (suc (suc (suc (suc (suc (suc (suc (suc (suc (suc (suc (suc (suc (suc (suc zero))))))))))))))))))))))))))))))))) a b h k = absurd (h refl)
plain_operation (suc (suc (suc (suc (suc (suc (suc (suc (suc (suc (suc (suc (suc (suc (suc (suc (suc (suc (suc (suc (suc (suc (suc (suc (suc (suc (suc (suc (suc (suc (suc (suc (suc (suc zero)))))))))))))))))))))))))))))))))) a b h k = absurd (k refl)
plain_operation (suc (suc (suc (suc (suc (suc (suc (suc (suc (suc (suc (suc (suc (suc (suc (suc (suc (suc (suc (suc (suc (suc (suc (suc (suc (suc (suc (suc (suc (suc (suc (suc (suc (suc (suc n))))))))))))))))))))))))))))))))))) a b h k = refl

-- an operator before an expression that isn't `!`
pub plain_sign : (s : ℕ) (a : Bool) → (s ≡ 14 → ⊥) → sign_is_unsigned (operator_at s) a ≡ a
plain_sign zero a h = refl
plain_sign (suc zero) a h = refl
plain_sign (suc (suc zero)) a h = refl
plain_sign (suc (suc (suc zero))) a h = refl
plain_sign (suc (suc (suc (suc zero)))) a h = refl
plain_sign (suc (suc (suc (suc (suc zero))))) a h = refl
plain_sign (suc (suc (suc (suc (suc (suc zero)))))) a h = refl
plain_sign (suc (suc (suc (suc (suc (suc (suc zero))))))) a h = refl
plain_sign (suc (suc (suc (suc (suc (suc (suc (suc zero)))))))) a h = refl
plain_sign (suc (suc (suc (suc (suc (suc (suc (suc (suc zero))))))))) a h = refl
plain_sign (suc (suc (suc (suc (suc (suc (suc (suc (suc (suc zero)))))))))) a h = refl
plain_sign (suc (suc (suc (suc (suc (suc (suc (suc (suc (suc (suc zero))))))))))) a h = refl
plain_sign (suc (suc (suc (suc (suc (suc (suc (suc (suc (suc (suc (suc zero)))))))))))) a h = refl
plain_sign (suc (suc (suc (suc (suc (suc (suc (suc (suc (suc (suc (suc (suc zero))))))))))))) a h = refl
plain_sign (suc (suc (suc (suc (suc (suc (suc (suc (suc (suc (suc (suc (suc (suc zero)))))))))))))) a h = absurd (h refl)
plain_sign (suc (suc (suc (suc (suc (suc (suc (suc (suc (suc (suc (suc (suc (suc (suc zero))))))))))))))) a h = refl
plain_sign (suc (suc (suc (suc (suc (suc (suc (suc (suc (suc (suc (suc (suc (suc (suc (suc zero)))))))))))))))) a h = refl
plain_sign (suc (suc (suc (suc (suc (suc (suc (suc (suc (suc (suc (suc (suc (suc (suc (suc (suc zero))))))))))))))))) a h = refl
plain_sign (suc (suc (suc (suc (suc (suc (suc (suc (suc (suc (suc (suc (suc (suc (suc (suc (suc (suc zero)))))))))))))))))) a h = refl
plain_sign (suc (suc (suc (suc (suc (suc (suc (suc (suc (suc (suc (suc (suc (suc (suc (suc (suc (suc (suc zero))))))))))))))))))) a h = refl
plain_sign (suc (suc (suc (suc (suc (suc (suc (suc (suc (suc (suc (suc (suc (suc (suc (suc (suc (suc (suc (suc zero)))))))))))))))))))) a h = refl
plain_sign (suc (suc (suc (suc (suc (suc (suc (suc (suc (suc (suc (suc (suc (suc (suc (suc (suc (suc (suc (suc (suc zero))))))))))))))))))))) a h = refl
plain_sign (suc (suc (suc (suc (suc (suc (suc (suc (suc (suc (suc (suc (suc (suc (suc (suc (suc (suc (suc (suc (suc (suc zero)))))))))))))))))))))) a h = refl
plain_sign (suc (suc (suc (suc (suc (suc (suc (suc (suc (suc (suc (suc (suc (suc (suc (suc (suc (suc (suc (suc (suc (suc (suc zero))))))))))))))))))))))) a h = refl
plain_sign (suc (suc (suc (suc (suc (suc (suc (suc (suc (suc (suc (suc (suc (suc (suc (suc (suc (suc (suc (suc (suc (suc (suc (suc zero)))))))))))))))))))))))) a h = refl
plain_sign (suc (suc (suc (suc (suc (suc (suc (suc (suc (suc (suc (suc (suc (suc (suc (suc (suc (suc (suc (suc (suc (suc (suc (suc (suc zero))))))))))))))))))))))))) a h = refl
plain_sign (suc (suc (suc (suc (suc (suc (suc (suc (suc (suc (suc (suc (suc (suc (suc (suc (suc (suc (suc (suc (suc (suc (suc (suc (suc (suc zero)))))))))))))))))))))))))) a h = refl
plain_sign (suc (suc (suc (suc (suc (suc (suc (suc (suc (suc (suc (suc (suc (suc (suc (suc (suc (suc (suc (suc (suc (suc (suc (suc (suc (suc (suc zero))))))))))))))))))))))))))) a h = refl
plain_sign (suc (suc (suc (suc (suc (suc (suc (suc (suc (suc (suc (suc (suc (suc (suc (suc (suc (suc (suc (suc (suc (suc (suc (suc (suc (suc (suc (suc zero)))))))))))))))))))))))))))) a h = refl
plain_sign (suc (suc (suc (suc (suc (suc (suc (suc (suc (suc (suc (suc (suc (suc (suc (suc (suc (suc (suc (suc (suc (suc (suc (suc (suc (suc (suc (suc (suc zero))))))))))))))))))))))))))))) a h = refl
plain_sign (suc (suc (suc (suc (suc (suc (suc (suc (suc (suc (suc (suc (suc (suc (suc (suc (suc (suc (suc (suc (suc (suc (suc (suc (suc (suc (suc (suc (suc (suc zero)))))))))))))))))))))))))))))) a h = refl
plain_sign (suc (suc (suc (suc (suc (suc (suc (suc (suc (suc (suc (suc (suc (suc (suc (suc (suc (suc (suc (suc (suc (suc (suc (suc (suc (suc (suc (suc (suc (suc (suc zero))))))))))))))))))))))))))))))) a h = refl
plain_sign (suc (suc (suc (suc (suc (suc (suc (suc (suc (suc (suc (suc (suc (suc (suc (suc (suc (suc (suc (suc (suc (suc (suc (suc (suc (suc (suc (suc (suc (suc (suc (suc zero)))))))))))))))))))))))))))))))) a h = refl
plain_sign (suc (suc (suc (suc (suc (suc (suc (suc (suc (suc (suc (suc (suc (suc (suc (suc (suc (suc (suc (suc (suc (suc (suc (suc (suc (suc (suc (suc (suc (suc (suc (suc (suc zero))))))))))))))))))))))))))))))))) a h = refl
plain_sign (suc (suc (suc (suc (suc (suc (suc (suc (suc (suc (suc (suc (suc (suc (suc (suc (suc (suc (suc (suc (suc (suc (suc (suc (suc (suc (suc (suc (suc (suc (suc (suc (suc (suc zero)))))))))))))))))))))))))))))))))) a h = refl
plain_sign (suc (suc (suc (suc (suc (suc (suc (suc (suc (suc (suc (suc (suc (suc (suc (suc (suc (suc (suc (suc (suc (suc (suc (suc (suc (suc (suc (suc (suc (suc (suc (suc (suc (suc (suc n))))))))))))))))))))))))))))))))))) a h = refl

far : (n k : ℕ) → k < n → nat_eq k n ≡ false
far n k h = grind arith

-- symbols past the table are none of these
none_of : (s : ℕ) → 34 < s → list_any (λ y. nat_eq y s) (20 ∷ 21 ∷ 27 ∷ 28 ∷ 29 ∷ 30 ∷ 31 ∷ 32 ∷ []) ≡ false
none_of s h = rw (far s 20 (omega (arith, h)), far s 21 (omega (arith, h)), far s 27 (omega (arith, h)), far s 28 (omega (arith, h)), far s 29 (omega (arith, h)), far s 30 (omega (arith, h)), far s 31 (omega (arith, h)), far s 32 (omega (arith, h))) refl

-- the symbols whose operators give 1 or 0
abbrev pub truths : List ℕ
truths = 20 ∷ 21 ∷ 27 ∷ 28 ∷ 29 ∷ 30 ∷ 31 ∷ 32 ∷ []

pub truth_by_symbol : (s : ℕ) → list_any (λ y. nat_eq y s) truths ≡ is_truth (operator_at s)
truth_by_symbol zero = refl
truth_by_symbol (suc zero) = refl
truth_by_symbol (suc (suc zero)) = refl
truth_by_symbol (suc (suc (suc zero))) = refl
truth_by_symbol (suc (suc (suc (suc zero)))) = refl
truth_by_symbol (suc (suc (suc (suc (suc zero))))) = refl
truth_by_symbol (suc (suc (suc (suc (suc (suc zero)))))) = refl
truth_by_symbol (suc (suc (suc (suc (suc (suc (suc zero))))))) = refl
truth_by_symbol (suc (suc (suc (suc (suc (suc (suc (suc zero)))))))) = refl
truth_by_symbol (suc (suc (suc (suc (suc (suc (suc (suc (suc zero))))))))) = refl
truth_by_symbol (suc (suc (suc (suc (suc (suc (suc (suc (suc (suc zero)))))))))) = refl
truth_by_symbol (suc (suc (suc (suc (suc (suc (suc (suc (suc (suc (suc zero))))))))))) = refl
truth_by_symbol (suc (suc (suc (suc (suc (suc (suc (suc (suc (suc (suc (suc zero)))))))))))) = refl
truth_by_symbol (suc (suc (suc (suc (suc (suc (suc (suc (suc (suc (suc (suc (suc zero))))))))))))) = refl
truth_by_symbol (suc (suc (suc (suc (suc (suc (suc (suc (suc (suc (suc (suc (suc (suc zero)))))))))))))) = refl
truth_by_symbol (suc (suc (suc (suc (suc (suc (suc (suc (suc (suc (suc (suc (suc (suc (suc zero))))))))))))))) = refl
truth_by_symbol (suc (suc (suc (suc (suc (suc (suc (suc (suc (suc (suc (suc (suc (suc (suc (suc zero)))))))))))))))) = refl
truth_by_symbol (suc (suc (suc (suc (suc (suc (suc (suc (suc (suc (suc (suc (suc (suc (suc (suc (suc zero))))))))))))))))) = refl
truth_by_symbol (suc (suc (suc (suc (suc (suc (suc (suc (suc (suc (suc (suc (suc (suc (suc (suc (suc (suc zero)))))))))))))))))) = refl
truth_by_symbol (suc (suc (suc (suc (suc (suc (suc (suc (suc (suc (suc (suc (suc (suc (suc (suc (suc (suc (suc zero))))))))))))))))))) = refl
truth_by_symbol (suc (suc (suc (suc (suc (suc (suc (suc (suc (suc (suc (suc (suc (suc (suc (suc (suc (suc (suc (suc zero)))))))))))))))))))) = refl
truth_by_symbol (suc (suc (suc (suc (suc (suc (suc (suc (suc (suc (suc (suc (suc (suc (suc (suc (suc (suc (suc (suc (suc zero))))))))))))))))))))) = refl
truth_by_symbol (suc (suc (suc (suc (suc (suc (suc (suc (suc (suc (suc (suc (suc (suc (suc (suc (suc (suc (suc (suc (suc (suc zero)))))))))))))))))))))) = refl
truth_by_symbol (suc (suc (suc (suc (suc (suc (suc (suc (suc (suc (suc (suc (suc (suc (suc (suc (suc (suc (suc (suc (suc (suc (suc zero))))))))))))))))))))))) = refl
truth_by_symbol (suc (suc (suc (suc (suc (suc (suc (suc (suc (suc (suc (suc (suc (suc (suc (suc (suc (suc (suc (suc (suc (suc (suc (suc zero)))))))))))))))))))))))) = refl
truth_by_symbol (suc (suc (suc (suc (suc (suc (suc (suc (suc (suc (suc (suc (suc (suc (suc (suc (suc (suc (suc (suc (suc (suc (suc (suc (suc zero))))))))))))))))))))))))) = refl
truth_by_symbol (suc (suc (suc (suc (suc (suc (suc (suc (suc (suc (suc (suc (suc (suc (suc (suc (suc (suc (suc (suc (suc (suc (suc (suc (suc (suc zero)))))))))))))))))))))))))) = refl
truth_by_symbol (suc (suc (suc (suc (suc (suc (suc (suc (suc (suc (suc (suc (suc (suc (suc (suc (suc (suc (suc (suc (suc (suc (suc (suc (suc (suc (suc zero))))))))))))))))))))))))))) = refl
truth_by_symbol (suc (suc (suc (suc (suc (suc (suc (suc (suc (suc (suc (suc (suc (suc (suc (suc (suc (suc (suc (suc (suc (suc (suc (suc (suc (suc (suc (suc zero)))))))))))))))))))))))))))) = refl
truth_by_symbol (suc (suc (suc (suc (suc (suc (suc (suc (suc (suc (suc (suc (suc (suc (suc (suc (suc (suc (suc (suc (suc (suc (suc (suc (suc (suc (suc (suc (suc zero))))))))))))))))))))))))))))) = refl
truth_by_symbol (suc (suc (suc (suc (suc (suc (suc (suc (suc (suc (suc (suc (suc (suc (suc (suc (suc (suc (suc (suc (suc (suc (suc (suc (suc (suc (suc (suc (suc (suc zero)))))))))))))))))))))))))))))) = refl
truth_by_symbol (suc (suc (suc (suc (suc (suc (suc (suc (suc (suc (suc (suc (suc (suc (suc (suc (suc (suc (suc (suc (suc (suc (suc (suc (suc (suc (suc (suc (suc (suc (suc zero))))))))))))))))))))))))))))))) = refl
truth_by_symbol (suc (suc (suc (suc (suc (suc (suc (suc (suc (suc (suc (suc (suc (suc (suc (suc (suc (suc (suc (suc (suc (suc (suc (suc (suc (suc (suc (suc (suc (suc (suc (suc zero)))))))))))))))))))))))))))))))) = refl
truth_by_symbol (suc (suc (suc (suc (suc (suc (suc (suc (suc (suc (suc (suc (suc (suc (suc (suc (suc (suc (suc (suc (suc (suc (suc (suc (suc (suc (suc (suc (suc (suc (suc (suc (suc zero))))))))))))))))))))))))))))))))) = refl
truth_by_symbol (suc (suc (suc (suc (suc (suc (suc (suc (suc (suc (suc (suc (suc (suc (suc (suc (suc (suc (suc (suc (suc (suc (suc (suc (suc (suc (suc (suc (suc (suc (suc (suc (suc (suc zero)))))))))))))))))))))))))))))))))) = refl
truth_by_symbol (suc (suc (suc (suc (suc (suc (suc (suc (suc (suc (suc (suc (suc (suc (suc (suc (suc (suc (suc (suc (suc (suc (suc (suc (suc (suc (suc (suc (suc (suc (suc (suc (suc (suc (suc n))))))))))))))))))))))))))))))))))) = none_of (suc (suc (suc (suc (suc (suc (suc (suc (suc (suc (suc (suc (suc (suc (suc (suc (suc (suc (suc (suc (suc (suc (suc (suc (suc (suc (suc (suc (suc (suc (suc (suc (suc (suc (suc n))))))))))))))))))))))))))))))))))) (omega arith)

-- what gives 1 or 0 is an `int`, and the others give what they are
pub truth_is_signed : (o : operator.Operator) (a b : Bool) → is_truth o ≡ true → result_is_unsigned o a b ≡ false
truth_is_signed operator.below_length a b h = cc
truth_is_signed operator.choose a b h = cc
truth_is_signed operator.bit_and a b h = cc
truth_is_signed operator.bit_or a b h = cc
truth_is_signed operator.bit_xor a b h = cc
truth_is_signed operator.flip a b h = cc
truth_is_signed operator.not_true a b h = cc
truth_is_signed operator.plus a b h = cc
truth_is_signed operator.minus a b h = cc
truth_is_signed operator.times a b h = cc
truth_is_signed operator.divide a b h = cc
truth_is_signed operator.remainder a b h = cc
truth_is_signed operator.less a b h = refl
truth_is_signed operator.greater a b h = refl
truth_is_signed operator.equal a b h = refl
truth_is_signed operator.differs a b h = refl
truth_is_signed operator.at_most a b h = refl
truth_is_signed operator.at_least a b h = refl
truth_is_signed operator.both a b h = refl
truth_is_signed operator.either a b h = refl
truth_is_signed operator.shift_up a b h = cc
truth_is_signed operator.shift_down a b h = cc
truth_is_signed operator.no_operator a b h = cc

pub other_result : (o : operator.Operator) (a b : Bool) → is_truth o ≡ false → result_is_unsigned o a b ≡ operation_is_unsigned o a b
other_result operator.below_length a b h = refl
other_result operator.choose a b h = refl
other_result operator.bit_and a b h = refl
other_result operator.bit_or a b h = refl
other_result operator.bit_xor a b h = refl
other_result operator.flip a b h = refl
other_result operator.not_true a b h = refl
other_result operator.plus a b h = refl
other_result operator.minus a b h = refl
other_result operator.times a b h = refl
other_result operator.divide a b h = refl
other_result operator.remainder a b h = refl
other_result operator.less a b h = cc
other_result operator.greater a b h = cc
other_result operator.equal a b h = cc
other_result operator.differs a b h = cc
other_result operator.at_most a b h = cc
other_result operator.at_least a b h = cc
other_result operator.both a b h = cc
other_result operator.either a b h = cc
other_result operator.shift_up a b h = refl
other_result operator.shift_down a b h = refl
other_result operator.no_operator a b h = refl
