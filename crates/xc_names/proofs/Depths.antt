-- How deep the parts of a statement stand, by which a walk over it comes to its end.
use Rattle.std.proofs.Common.{◌≡◌, ℕ, suc, ◌+◌, ◌*◌, ◌<◌, ◌≤◌, max, subst, arith}

-- a part of this depth is measured below what is left, where it is no deeper
pub falls : (d r i q : ℕ) {t : ℕ} → 4 * d + r ≡ t → 4 * i + q < 4 * d + r → 4 * i + q < t
falls d r i q left less = subst (λ (t : ℕ). 4 * i + q < t) left less

pub no_deeper : (d i r q k : ℕ) → i ≤ d → q + suc k ≡ r → 4 * i + q < 4 * d + r
no_deeper d i r q k h l = omega arith

-- what a statement holds is measured below it
pub inside : (d i q k : ℕ) → i + 1 ≤ d → q + suc k ≡ 4 → 4 * i + q < 4 * d + 0
inside d i q k h l = omega arith

pub under : (d i : ℕ) {t : ℕ} → d ≡ t → i + 1 ≤ d → i < t
under d i left h = omega arith

-- one more than a part is no more than one more than all parts
pub same : (a : ℕ) → a + 1 ≤ a + 1
same a = omega arith

pub first : (a b : ℕ) → a + 1 ≤ max a b + 1
first a b = omega arith

pub second : (a b : ℕ) → b + 1 ≤ max a b + 1
second a b = omega arith

pub second_of_three : (a b c : ℕ) → b + 1 ≤ max a (max b c) + 1
second_of_three a b c = omega arith

pub third : (a b c : ℕ) → c + 1 ≤ max a (max b c) + 1
third a b c = omega arith

pub third_of_four : (a b c d : ℕ) → c + 1 ≤ max a (max b (max c d)) + 1
third_of_four a b c d = omega arith

pub fourth : (a b c d : ℕ) → d + 1 ≤ max a (max b (max c d)) + 1
fourth a b c d = omega arith

pub itself : (a : ℕ) → a ≤ a
itself a = omega arith
