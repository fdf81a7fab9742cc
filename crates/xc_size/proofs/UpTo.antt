-- Counts that go no further than one above their limits: they may be cut before or behind a sum.
use Rattle.std.proofs.Common.{◌≡◌, ℕ, zero, suc, ◌+◌, ◌*◌, ◌<◌, ◌≤◌, ◌⊎◌, inl, inr, min, max, refl, ap, ◌∙◌, arith}
use Rattle.std.proofs.Math.Nat.{zero-mul, mul_comm, le-mul_of_pos_right}
use Rattle.std.proofs.lemmas.Bool.{cases_lt}
use Rattle.xc_size.specs.Sizes.{up_to}

pub up_to_none : (l : ℕ) → up_to l 0 ≡ 0
unfolding up_to
up_to_none l = omega arith

pub up_to_again : (l a : ℕ) → up_to l (up_to l a) ≡ up_to l a
unfolding up_to
up_to_again l a = omega arith

pub up_to_left : (l a b : ℕ) → up_to l (up_to l a + b) ≡ up_to l (a + b)
unfolding up_to
up_to_left l a b = omega arith

pub up_to_right : (l a b : ℕ) → up_to l (a + up_to l b) ≡ up_to l (a + b)
unfolding up_to
up_to_right l a b = omega arith

pub up_to_max_left : (l a b : ℕ) → up_to l (max (up_to l a) b) ≡ up_to l (max a b)
unfolding up_to
up_to_max_left l a b = omega arith

pub up_to_max_right : (l a b : ℕ) → up_to l (max a (up_to l b)) ≡ up_to l (max a b)
unfolding up_to
up_to_max_right l a b = omega arith

-- copies of a great count are many, but where there is none
pub up_to_times : (l m a : ℕ) → up_to l (m * up_to l a) ≡ up_to l (m * a)
unfolding up_to
up_to_times l zero a = rw (zero-mul (min a (l + 1)), zero-mul a) refl
up_to_times l (suc m) a = by (cases_lt (l + 1) a)
  where
    by : (l + 1 < a) ⊎ (a ≤ l + 1) → min (suc m * min a (l + 1)) (l + 1) ≡ min (suc m * a) (l + 1)
    by (inl h) =
        let one : a ≤ a * suc m = le-mul_of_pos_right a (omega arith) in
        let other : l + 1 ≤ (l + 1) * suc m = le-mul_of_pos_right (l + 1) (omega arith) in
        let e : min a (l + 1) ≡ l + 1 = omega arith in
        rw (e, mul_comm (suc m) (l + 1), mul_comm (suc m) a) (omega arith)
    by (inr h) = let e : min a (l + 1) ≡ a = omega arith in ap (λ (x : ℕ). min (suc m * x) (l + 1)) e

-- two parts that are put together

pub sum_of_two : (l a b x y s : ℕ) → x ≡ up_to l a → y ≡ up_to l b → s ≡ up_to l (x + y) → s ≡ up_to l (a + b)
unfolding up_to
sum_of_two l a b x y s e f g = omega arith

pub greatest_of_two : (l a b x y s : ℕ) → x ≡ up_to l a → y ≡ up_to l b → s ≡ up_to l (max x y) → s ≡ up_to l (max a b)
unfolding up_to
greatest_of_two l a b x y s e f g = omega arith

pub behind_none : (l b x y s : ℕ) → x ≡ up_to l 0 → y ≡ up_to l b → s ≡ up_to l (x + y) → s ≡ up_to l b
unfolding up_to
behind_none l b x y s e f g = omega arith

pub before_none : (l a x y s : ℕ) → x ≡ up_to l a → y ≡ up_to l 0 → s ≡ up_to l (x + y) → s ≡ up_to l a
unfolding up_to
before_none l a x y s e f g = omega arith

-- parts that are put together from the last one on

pub sum_of_three : (l a b c x y z r s : ℕ) → x ≡ up_to l a → y ≡ up_to l b → z ≡ up_to l c → r ≡ up_to l (y + z) → s ≡ up_to l (x + r) → s ≡ up_to l (a + b + c)
unfolding up_to
sum_of_three l a b c x y z r s e f g h i = omega arith

pub greatest_of_three : (l a b c x y z r s : ℕ) → x ≡ up_to l a → y ≡ up_to l b → z ≡ up_to l c → r ≡ up_to l (max y z) → s ≡ up_to l (max x r) → s ≡ up_to l (max a (max b c))
unfolding up_to
greatest_of_three l a b c x y z r s e f g h i = omega arith

pub sum_of_four : (l a b c d x y z w r s : ℕ) → x ≡ up_to l a → y ≡ up_to l b → z ≡ up_to l c → w ≡ up_to l d → r ≡ up_to l (z + w) → s ≡ up_to l (y + r) → (t : ℕ) → t ≡ up_to l (x + s) → t ≡ up_to l (a + b + c + d)
unfolding up_to
sum_of_four l a b c d x y z w r s e f g h i j t k =
    let u = sum_of_three l b c d y z w r s f g h i j in omega arith

pub greatest_of_four : (l a b c d x y z w r s : ℕ) → x ≡ up_to l a → y ≡ up_to l b → z ≡ up_to l c → w ≡ up_to l d → r ≡ up_to l (max z w) → s ≡ up_to l (max y r) → (t : ℕ) → t ≡ up_to l (max x s) → t ≡ up_to l (max a (max b (max c d)))
unfolding up_to
greatest_of_four l a b c d x y z w r s e f g h i j t k =
    let u = greatest_of_three l b c d y z w r s f g h i j in omega arith

-- one more than a count that is cut
pub one_more : (l a b r s : ℕ) → r ≡ up_to l a → s ≡ up_to l (r + 1) → a + 1 ≡ b → s ≡ up_to l b
unfolding up_to
one_more l a b r s e f g = omega arith

pub two_more : (l a r s : ℕ) → r ≡ up_to l a → s ≡ up_to l (r + 2) → s ≡ up_to l (a + 2)
unfolding up_to
two_more l a r s e f = omega arith

pub copies_of : (l m a x r : ℕ) → x ≡ up_to l a → r ≡ up_to l (m * x) → r ≡ up_to l (m * a)
copies_of l m a x r e f = f ∙ ap (λ (y : ℕ). up_to l (m * y)) e ∙ up_to_times l m a

pub same_count : (l a b r : ℕ) → r ≡ up_to l a → a ≡ b → r ≡ up_to l b
same_count l a b r e f = e ∙ ap (up_to l) f
