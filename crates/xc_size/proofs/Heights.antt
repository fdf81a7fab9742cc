-- What stands in a statement is no higher than it, and is measured below it.
use Rattle.std.proofs.Common.{◌≡◌, ℕ, ◌+◌, ◌*◌, ◌<◌, ◌≤◌, max, arith}

pub one_higher : (h i : ℕ) → h ≡ i + 1 → 5 * i + 4 < 5 * h + 0
one_higher h i e = omega arith

pub in_left : (h a b : ℕ) → h ≡ max a b → a ≤ h
in_left h a b e = omega arith

pub in_right : (h a b : ℕ) → h ≡ max a b → b ≤ h
in_right h a b e = omega arith

pub in_middle : (h a b c : ℕ) → h ≡ max a (max b c) → b ≤ h
in_middle h a b c e = omega arith

pub in_last : (h a b c : ℕ) → h ≡ max a (max b c) → c ≤ h
in_last h a b c e = omega arith
