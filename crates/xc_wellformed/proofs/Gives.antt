-- The type of what an operator gives, as the rules of types have it and as the copy has it.
use Rattle.std.proofs.Common.{◌≡◌, ℕ, zero, suc, Bool, true, false, ◌||◌, refl, sym, true≢false}
use Rattle.xc_tree.specs.Types.Words.{gives_unsigned}
use Rattle.xc_kernel.specs.Operators.{operator_at}
use Rattle.xc_kernel.specs.Types.{result_is_unsigned, sign_is_unsigned}
use Rattle.xc_wellformed.specs.Operands.{takes}

-- of two operands
pub of_two : (o : ℕ) (a b : Bool) → takes (operator_at o) 2 ≡ true → result_is_unsigned (operator_at o) a b ≡ gives_unsigned o a b
of_two zero a b h = absurd (true≢false (sym h))
of_two (suc zero) a b h = absurd (true≢false (sym h))
of_two (suc (suc zero)) a b h = absurd (true≢false (sym h))
of_two (suc (suc (suc zero))) a b h = absurd (true≢false (sym h))
of_two (suc (suc (suc (suc zero)))) a b h = refl
of_two (suc (suc (suc (suc (suc zero))))) a b h = absurd (true≢false (sym h))
of_two (suc (suc (suc (suc (suc (suc zero)))))) a b h = absurd (true≢false (sym h))
of_two (suc (suc (suc (suc (suc (suc (suc zero))))))) a b h = absurd (true≢false (sym h))
of_two (suc (suc (suc (suc (suc (suc (suc (suc zero)))))))) a b h = absurd (true≢false (sym h))
of_two (suc (suc (suc (suc (suc (suc (suc (suc (suc zero))))))))) a b h = absurd (true≢false (sym h))
of_two (suc (suc (suc (suc (suc (suc (suc (suc (suc (suc zero)))))))))) a b h = refl
of_two (suc (suc (suc (suc (suc (suc (suc (suc (suc (suc (suc zero))))))))))) a b h = refl
of_two (suc (suc (suc (suc (suc (suc (suc (suc (suc (suc (suc (suc zero)))))))))))) a b h = refl
of_two (suc (suc (suc (suc (suc (suc (suc (suc (suc (suc (suc (suc (suc zero))))))))))))) a b h = absurd (true≢false (sym h))
of_two (suc (suc (suc (suc (suc (suc (suc (suc (suc (suc (suc (suc (suc (suc zero)))))))))))))) a b h = absurd (true≢false (sym h))
of_two (suc (suc (suc (suc (suc (suc (suc (suc (suc (suc (suc (suc (suc (suc (suc zero))))))))))))))) a b h = refl
of_two (suc (suc (suc (suc (suc (suc (suc (suc (suc (suc (suc (suc (suc (suc (suc (suc zero)))))))))))))))) a b h = refl
of_two (suc (suc (suc (suc (suc (suc (suc (suc (suc (suc (suc (suc (suc (suc (suc (suc (suc zero))))))))))))))))) a b h = refl
of_two (suc (suc (suc (suc (suc (suc (suc (suc (suc (suc (suc (suc (suc (suc (suc (suc (suc (suc zero)))))))))))))))))) a b h = refl
of_two (suc (suc (suc (suc (suc (suc (suc (suc (suc (suc (suc (suc (suc (suc (suc (suc (suc (suc (suc zero))))))))))))))))))) a b h = refl
of_two (suc (suc (suc (suc (suc (suc (suc (suc (suc (suc (suc (suc (suc (suc (suc (suc (suc (suc (suc (suc zero)))))))))))))))))))) a b h = refl
of_two (suc (suc (suc (suc (suc (suc (suc (suc (suc (suc (suc (suc (suc (suc (suc (suc (suc (suc (suc (suc (suc zero))))))))))))))))))))) a b h = refl
of_two (suc (suc (suc (suc (suc (suc (suc (suc (suc (suc (suc (suc (suc (suc (suc (suc (suc (suc (suc (suc (suc (suc zero)))))))))))))))))))))) a b h = absurd (true≢false (sym h))
of_two (suc (suc (suc (suc (suc (suc (suc (suc (suc (suc (suc (suc (suc (suc (suc (suc (suc (suc (suc (suc (suc (suc (suc zero))))))))))))))))))))))) a b h = absurd (true≢false (sym h))
of_two (suc (suc (suc (suc (suc (suc (suc (suc (suc (suc (suc (suc (suc (suc (suc (suc (suc (suc (suc (suc (suc (suc (suc (suc zero)))))))))))))))))))))))) a b h = absurd (true≢false (sym h))
of_two (suc (suc (suc (suc (suc (suc (suc (suc (suc (suc (suc (suc (suc (suc (suc (suc (suc (suc (suc (suc (suc (suc (suc (suc (suc zero))))))))))))))))))))))))) a b h = absurd (true≢false (sym h))
of_two (suc (suc (suc (suc (suc (suc (suc (suc (suc (suc (suc (suc (suc (suc (suc (suc (suc (suc (suc (suc (suc (suc (suc (suc (suc (suc zero)))))))))))))))))))))))))) a b h = absurd (true≢false (sym h))
of_two (suc (suc (suc (suc (suc (suc (suc (suc (suc (suc (suc (suc (suc (suc (suc (suc (suc (suc (suc (suc (suc (suc (suc (suc (suc (suc (suc zero))))))))))))))))))))))))))) a b h = refl
of_two (suc (suc (suc (suc (suc (suc (suc (suc (suc (suc (suc (suc (suc (suc (suc (suc (suc (suc (suc (suc (suc (suc (suc (suc (suc (suc (suc (suc zero)))))))))))))))))))))))))))) a b h = refl
of_two (suc (suc (suc (suc (suc (suc (suc (suc (suc (suc (suc (suc (suc (suc (suc (suc (suc (suc (suc (suc (suc (suc (suc (suc (suc (suc (suc (suc (suc zero))))))))))))))))))))))))))))) a b h = refl
of_two (suc (suc (suc (suc (suc (suc (suc (suc (suc (suc (suc (suc (suc (suc (suc (suc (suc (suc (suc (suc (suc (suc (suc (suc (suc (suc (suc (suc (suc (suc zero)))))))))))))))))))))))))))))) a b h = refl
of_two (suc (suc (suc (suc (suc (suc (suc (suc (suc (suc (suc (suc (suc (suc (suc (suc (suc (suc (suc (suc (suc (suc (suc (suc (suc (suc (suc (suc (suc (suc (suc zero))))))))))))))))))))))))))))))) a b h = refl
of_two (suc (suc (suc (suc (suc (suc (suc (suc (suc (suc (suc (suc (suc (suc (suc (suc (suc (suc (suc (suc (suc (suc (suc (suc (suc (suc (suc (suc (suc (suc (suc (suc zero)))))))))))))))))))))))))))))))) a b h = refl
of_two (suc (suc (suc (suc (suc (suc (suc (suc (suc (suc (suc (suc (suc (suc (suc (suc (suc (suc (suc (suc (suc (suc (suc (suc (suc (suc (suc (suc (suc (suc (suc (suc (suc zero))))))))))))))))))))))))))))))))) a b h = refl
of_two (suc (suc (suc (suc (suc (suc (suc (suc (suc (suc (suc (suc (suc (suc (suc (suc (suc (suc (suc (suc (suc (suc (suc (suc (suc (suc (suc (suc (suc (suc (suc (suc (suc (suc zero)))))))))))))))))))))))))))))))))) a b h = refl
of_two (suc (suc (suc (suc (suc (suc (suc (suc (suc (suc (suc (suc (suc (suc (suc (suc (suc (suc (suc (suc (suc (suc (suc (suc (suc (suc (suc (suc (suc (suc (suc (suc (suc (suc (suc o))))))))))))))))))))))))))))))))))) a b h = absurd (true≢false (sym h))

or_none : (a : Bool) → a ≡ (a || false)
or_none true = refl
or_none false = refl

-- of one
pub of_one : (o : ℕ) (a : Bool) → takes (operator_at o) 1 ≡ true → sign_is_unsigned (operator_at o) a ≡ gives_unsigned o a false
of_one zero a h = absurd (true≢false (sym h))
of_one (suc zero) a h = absurd (true≢false (sym h))
of_one (suc (suc zero)) a h = absurd (true≢false (sym h))
of_one (suc (suc (suc zero))) a h = absurd (true≢false (sym h))
of_one (suc (suc (suc (suc zero)))) a h = absurd (true≢false (sym h))
of_one (suc (suc (suc (suc (suc zero))))) a h = absurd (true≢false (sym h))
of_one (suc (suc (suc (suc (suc (suc zero)))))) a h = absurd (true≢false (sym h))
of_one (suc (suc (suc (suc (suc (suc (suc zero))))))) a h = absurd (true≢false (sym h))
of_one (suc (suc (suc (suc (suc (suc (suc (suc zero)))))))) a h = absurd (true≢false (sym h))
of_one (suc (suc (suc (suc (suc (suc (suc (suc (suc zero))))))))) a h = absurd (true≢false (sym h))
of_one (suc (suc (suc (suc (suc (suc (suc (suc (suc (suc zero)))))))))) a h = absurd (true≢false (sym h))
of_one (suc (suc (suc (suc (suc (suc (suc (suc (suc (suc (suc zero))))))))))) a h = absurd (true≢false (sym h))
of_one (suc (suc (suc (suc (suc (suc (suc (suc (suc (suc (suc (suc zero)))))))))))) a h = absurd (true≢false (sym h))
of_one (suc (suc (suc (suc (suc (suc (suc (suc (suc (suc (suc (suc (suc zero))))))))))))) a h = or_none a
of_one (suc (suc (suc (suc (suc (suc (suc (suc (suc (suc (suc (suc (suc (suc zero)))))))))))))) a h = refl
of_one (suc (suc (suc (suc (suc (suc (suc (suc (suc (suc (suc (suc (suc (suc (suc zero))))))))))))))) a h = or_none a
of_one (suc (suc (suc (suc (suc (suc (suc (suc (suc (suc (suc (suc (suc (suc (suc (suc zero)))))))))))))))) a h = or_none a
of_one (suc (suc (suc (suc (suc (suc (suc (suc (suc (suc (suc (suc (suc (suc (suc (suc (suc zero))))))))))))))))) a h = absurd (true≢false (sym h))
of_one (suc (suc (suc (suc (suc (suc (suc (suc (suc (suc (suc (suc (suc (suc (suc (suc (suc (suc zero)))))))))))))))))) a h = absurd (true≢false (sym h))
of_one (suc (suc (suc (suc (suc (suc (suc (suc (suc (suc (suc (suc (suc (suc (suc (suc (suc (suc (suc zero))))))))))))))))))) a h = absurd (true≢false (sym h))
of_one (suc (suc (suc (suc (suc (suc (suc (suc (suc (suc (suc (suc (suc (suc (suc (suc (suc (suc (suc (suc zero)))))))))))))))))))) a h = absurd (true≢false (sym h))
of_one (suc (suc (suc (suc (suc (suc (suc (suc (suc (suc (suc (suc (suc (suc (suc (suc (suc (suc (suc (suc (suc zero))))))))))))))))))))) a h = absurd (true≢false (sym h))
of_one (suc (suc (suc (suc (suc (suc (suc (suc (suc (suc (suc (suc (suc (suc (suc (suc (suc (suc (suc (suc (suc (suc zero)))))))))))))))))))))) a h = absurd (true≢false (sym h))
of_one (suc (suc (suc (suc (suc (suc (suc (suc (suc (suc (suc (suc (suc (suc (suc (suc (suc (suc (suc (suc (suc (suc (suc zero))))))))))))))))))))))) a h = absurd (true≢false (sym h))
of_one (suc (suc (suc (suc (suc (suc (suc (suc (suc (suc (suc (suc (suc (suc (suc (suc (suc (suc (suc (suc (suc (suc (suc (suc zero)))))))))))))))))))))))) a h = absurd (true≢false (sym h))
of_one (suc (suc (suc (suc (suc (suc (suc (suc (suc (suc (suc (suc (suc (suc (suc (suc (suc (suc (suc (suc (suc (suc (suc (suc (suc zero))))))))))))))))))))))))) a h = absurd (true≢false (sym h))
of_one (suc (suc (suc (suc (suc (suc (suc (suc (suc (suc (suc (suc (suc (suc (suc (suc (suc (suc (suc (suc (suc (suc (suc (suc (suc (suc zero)))))))))))))))))))))))))) a h = absurd (true≢false (sym h))
of_one (suc (suc (suc (suc (suc (suc (suc (suc (suc (suc (suc (suc (suc (suc (suc (suc (suc (suc (suc (suc (suc (suc (suc (suc (suc (suc (suc zero))))))))))))))))))))))))))) a h = absurd (true≢false (sym h))
of_one (suc (suc (suc (suc (suc (suc (suc (suc (suc (suc (suc (suc (suc (suc (suc (suc (suc (suc (suc (suc (suc (suc (suc (suc (suc (suc (suc (suc zero)))))))))))))))))))))))))))) a h = absurd (true≢false (sym h))
of_one (suc (suc (suc (suc (suc (suc (suc (suc (suc (suc (suc (suc (suc (suc (suc (suc (suc (suc (suc (suc (suc (suc (suc (suc (suc (suc (suc (suc (suc zero))))))))))))))))))))))))))))) a h = absurd (true≢false (sym h))
of_one (suc (suc (suc (suc (suc (suc (suc (suc (suc (suc (suc (suc (suc (suc (suc (suc (suc (suc (suc (suc (suc (suc (suc (suc (suc (suc (suc (suc (suc (suc zero)))))))))))))))))))))))))))))) a h = absurd (true≢false (sym h))
of_one (suc (suc (suc (suc (suc (suc (suc (suc (suc (suc (suc (suc (suc (suc (suc (suc (suc (suc (suc (suc (suc (suc (suc (suc (suc (suc (suc (suc (suc (suc (suc zero))))))))))))))))))))))))))))))) a h = absurd (true≢false (sym h))
of_one (suc (suc (suc (suc (suc (suc (suc (suc (suc (suc (suc (suc (suc (suc (suc (suc (suc (suc (suc (suc (suc (suc (suc (suc (suc (suc (suc (suc (suc (suc (suc (suc zero)))))))))))))))))))))))))))))))) a h = absurd (true≢false (sym h))
of_one (suc (suc (suc (suc (suc (suc (suc (suc (suc (suc (suc (suc (suc (suc (suc (suc (suc (suc (suc (suc (suc (suc (suc (suc (suc (suc (suc (suc (suc (suc (suc (suc (suc zero))))))))))))))))))))))))))))))))) a h = absurd (true≢false (sym h))
of_one (suc (suc (suc (suc (suc (suc (suc (suc (suc (suc (suc (suc (suc (suc (suc (suc (suc (suc (suc (suc (suc (suc (suc (suc (suc (suc (suc (suc (suc (suc (suc (suc (suc (suc zero)))))))))))))))))))))))))))))))))) a h = absurd (true≢false (sym h))
of_one (suc (suc (suc (suc (suc (suc (suc (suc (suc (suc (suc (suc (suc (suc (suc (suc (suc (suc (suc (suc (suc (suc (suc (suc (suc (suc (suc (suc (suc (suc (suc (suc (suc (suc (suc o))))))))))))))))))))))))))))))))))) a h = absurd (true≢false (sym h))
