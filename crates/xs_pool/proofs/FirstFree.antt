-- The first free place of a list.
use Rattle.std.proofs.Common.{◌≡◌, ℕ, zero, suc, ◌+◌, ◌<◌, Bool, true, false, List, [], ◌∷◌, Some, None, length, get_or, ap, ◌∙◌, arith, refl}
use Rattle.xs_instr.specs.Pool.{first_free}

-- where all places are taken, there is none
pub first_free-none : (taken : List Bool) (from : ℕ) → ((k : ℕ) (d : Bool) → k < length taken → get_or taken k d ≡ true) → first_free taken from ≡ None
first_free-none [] from passed = refl
first_free-none (true ∷ taken) from passed =
    first_free-none taken (suc from) (λ k d below. passed (suc k) d (omega arith))
first_free-none (false ∷ taken) from passed =
    let e : ◌≡◌ {A = Bool} false true = passed 0 false (omega arith) in cc

-- the place that is free where those before it are taken
pub first_free-is : (taken : List Bool) (n from : ℕ) → n < length taken → ((k : ℕ) (d : Bool) → k < n → get_or taken k d ≡ true)
    → get_or taken n false ≡ false → first_free taken from ≡ Some (from + n)
first_free-is [] n from inside passed free = absurd (omega arith)
first_free-is (false ∷ taken) zero from inside passed free = let e : from ≡ from + 0 = omega arith in ap Some e
first_free-is (true ∷ taken) zero from inside passed free = let e : ◌≡◌ {A = Bool} true false = free in cc
first_free-is (false ∷ taken) (suc n) from inside passed free =
    let e : ◌≡◌ {A = Bool} false true = passed 0 false (omega arith) in cc
first_free-is (true ∷ taken) (suc n) from inside passed free =
    let e : suc from + n ≡ from + suc n = omega arith in
    first_free-is taken n (suc from) (omega arith) (λ k d below. passed (suc k) d (omega arith)) free ∙ ap Some e
