-- How deeply expressions are nested, by which a walk of an expression comes to its end.
use Rattle.std.proofs.Common.{◌≡◌, ℕ, ◌+◌, ◌*◌, ◌<◌, max, arith}
use Rattle.xc_tree.specs.Plain as tree

abbrev mutual
  -- an expression is one deeper than what it holds
  pub depth : tree.Expression → ℕ
  depth (tree.expression form pos) = depth_of_form form + 1

  -- the depth of the deepest expression that a form holds
  pub depth_of_form : tree.Form → ℕ
  depth_of_form (tree.number value is_unsigned) = 0
  depth_of_form (tree.name text) = 0
  depth_of_form (tree.index text e) = depth e
  depth_of_form (tree.unary symbol e) = depth e
  depth_of_form (tree.binary symbol a b) = max (depth a) (depth b)
  depth_of_form (tree.choice a b c) = max (depth a) (max (depth b) (depth c))
  depth_of_form (tree.cast is_unsigned e) = depth e

-- what an expression holds is measured below it
pub only : (h i : ℕ) {t : ℕ} → 2 * h + 0 ≡ t → h ≡ i + 1 → 2 * i + 1 < t
only h i left e = omega arith

pub left_of_two : (h a b : ℕ) {t : ℕ} → 2 * h + 0 ≡ t → h ≡ max a b + 1 → 2 * a + 0 < t
left_of_two h a b left e = omega arith

pub right_of_two : (h a b : ℕ) {t : ℕ} → 2 * h + 0 ≡ t → h ≡ max a b + 1 → 2 * b + 1 < t
right_of_two h a b left e = omega arith

pub first_of_three : (h a b c : ℕ) {t : ℕ} → 2 * h + 0 ≡ t → h ≡ max a (max b c) + 1 → 2 * a + 1 < t
first_of_three h a b c left e = omega arith

pub second_of_three : (h a b c : ℕ) {t : ℕ} → 2 * h + 0 ≡ t → h ≡ max a (max b c) + 1 → 2 * b + 0 < t
second_of_three h a b c left e = omega arith

pub third_of_three : (h a b c : ℕ) {t : ℕ} → 2 * h + 0 ≡ t → h ≡ max a (max b c) + 1 → 2 * c + 0 < t
third_of_three h a b c left e = omega arith

pub itself : (h : ℕ) {t : ℕ} → 2 * h + 1 ≡ t → 2 * h + 0 < t
itself h left = omega arith
