-- Whether some core needs more than a limit, by what the four cores need.
use Rattle.std.proofs.Common.{◌≡◌, ℕ, zero, suc, ◌-◌, ◌^◌, ◌<◌, ◌≤◌, ◌⊎◌, inl, inr, Bool, true, false, ◌||◌, [], ◌∷◌, nat_lt, sym, ◌∙◌, arith}
use Rattle.std.specs.Bool.{Decides}
use Rattle.std.proofs.lemmas.Bool.Decides.{nat_tests}
use Rattle.std.proofs.lemmas.Bool.{or_cases, or_left, or_right}
use Rattle.xc_disjoint.specs.Rules.{IsAbove}
use Rattle.xc_disjoint.specs.Sums.{capped, some_above}

-- a limit below the greatest number is passed where a sum that stays there passes it

passes : (limit n : ℕ) → nat_lt limit (capped n) ≡ true → limit < n
unfolding capped
passes limit n h = let g : limit < capped n = grind (arith, nat_tests) in omega arith

passed : (limit n : ℕ) → limit < 2 ^ 64 - 1 → limit < n → nat_lt limit (capped n) ≡ true
unfolding capped
passed limit n small h = let g : limit < capped n = omega arith in grind (arith, nat_tests)

module _ (limit : ℕ) (small : limit < 2 ^ 64 - 1) (f : ℕ → ℕ) where
  above : ℕ → Bool
  above core = nat_lt limit (capped (f core))

  from_some : some_above limit (capped (f 0) ∷ capped (f 1) ∷ capped (f 2) ∷ capped (f 3) ∷ []) ≡ true → IsAbove limit f
  from_some h = first (or_cases (nat_lt limit (capped (f 0))) _ h)
    where
      at : (core : ℕ) → core ≤ 3 → nat_lt limit (capped (f core)) ≡ true → IsAbove limit f
      at core is e = record { core = core; is_core = is; more = passes limit (f core) e }

      none : false ≡ true → IsAbove limit f
      none e = absurd cc

      last : (nat_lt limit (capped (f 3)) ≡ true) ⊎ (false ≡ true) → IsAbove limit f
      last (inl e) = at 3 (omega arith) e
      last (inr e) = none e

      third : (nat_lt limit (capped (f 2)) ≡ true) ⊎ ((nat_lt limit (capped (f 3)) || false) ≡ true) → IsAbove limit f
      third (inl e) = at 2 (omega arith) e
      third (inr e) = last (or_cases (nat_lt limit (capped (f 3))) false e)

      second : (nat_lt limit (capped (f 1)) ≡ true) ⊎ ((nat_lt limit (capped (f 2)) || (nat_lt limit (capped (f 3)) || false)) ≡ true) → IsAbove limit f
      second (inl e) = at 1 (omega arith) e
      second (inr e) = third (or_cases (nat_lt limit (capped (f 2))) _ e)

      first : (nat_lt limit (capped (f 0)) ≡ true) ⊎ ((nat_lt limit (capped (f 1)) || (nat_lt limit (capped (f 2)) || (nat_lt limit (capped (f 3)) || false))) ≡ true) → IsAbove limit f
      first (inl e) = at 0 (omega arith) e
      first (inr e) = second (or_cases (nat_lt limit (capped (f 1))) _ e)

  to_some : (core : ℕ) → core ≤ 3 → limit < f core → some_above limit (capped (f 0) ∷ capped (f 1) ∷ capped (f 2) ∷ capped (f 3) ∷ []) ≡ true
  to_some zero is h = or_left _ _ (passed limit (f 0) small h)
  to_some (suc zero) is h = or_right (nat_lt limit (capped (f 0))) _ (or_left _ _ (passed limit (f 1) small h))
  to_some (suc (suc zero)) is h = or_right (nat_lt limit (capped (f 0))) _ (or_right (nat_lt limit (capped (f 1))) _ (or_left _ _ (passed limit (f 2) small h)))
  to_some (suc (suc (suc zero))) is h = or_right (nat_lt limit (capped (f 0))) _ (or_right (nat_lt limit (capped (f 1))) _ (or_right (nat_lt limit (capped (f 2))) _ (or_left _ _ (passed limit (f 3) small h))))
  to_some (suc (suc (suc (suc n)))) is h = absurd (omega arith)

  -- the numbers of the four cores decide it
  pub decides : (r : Bool) (a b c d : ℕ) → r ≡ some_above limit (a ∷ b ∷ c ∷ d ∷ []) → a ≡ capped (f 0) → b ≡ capped (f 1) → c ≡ capped (f 2) → d ≡ capped (f 3) → Decides r (IsAbove limit f)
  decides r a b c d e p q s t =
      let g : r ≡ some_above limit (capped (f 0) ∷ capped (f 1) ∷ capped (f 2) ∷ capped (f 3) ∷ []) = e ∙ (λ j. some_above limit (p j ∷ q j ∷ s j ∷ t j ∷ [])) in
      (λ h. from_some (sym g ∙ h), λ a. g ∙ to_some a.core a.is_core a.more)

-- what is decided, by the answer

pub is_so : {P : Type 0} (r : Bool) → Decides r P → r ≡ true → P
is_so r d e = d.0 e

pub not_so : {P : Type 0} (r : Bool) → Decides r P → r ≡ false → P → ⊥
not_so r d e p = let h = d.1 p in cc
