-- Counts that are the same as far as they go.
use Rattle.std.proofs.Common.{◌≡◌, ℕ, ◌+◌, ◌*◌, max, List, [], ◌∷◌, ◌++◌, sym, ap, ◌∙◌, arith}
use Rattle.xc_size.specs.Sizes.{up_to}
use Rattle.xc_size.proofs.UpTo.{up_to_times}

-- each of a list has a property
abbrev pub Each : {V : Type 0} → (V → Type 0) → List V → Type 0
Each P [] = Unit {0}
Each P (x ∷ xs) = P x × Each P xs

pub each_front : {V : Type 0} (P : V → Type 0) (xs ys : List V) → Each P (xs ++ ys) → Each P xs
each_front P [] ys a = tt
each_front P (x ∷ xs) ys a = (a.0, each_front P xs ys a.1)

pub each_back : {V : Type 0} (P : V → Type 0) (xs ys : List V) → Each P (xs ++ ys) → Each P ys
each_back P [] ys a = a
each_back P (x ∷ xs) ys a = each_back P xs ys a.1

pub same_sum : (l a b x y : ℕ) → up_to l a ≡ up_to l b → up_to l x ≡ up_to l y → up_to l (a + x) ≡ up_to l (b + y)
unfolding up_to
same_sum l a b x y e f = omega arith

pub same_greater : (l a b x y : ℕ) → up_to l a ≡ up_to l b → up_to l x ≡ up_to l y → up_to l (max a x) ≡ up_to l (max b y)
unfolding up_to
same_greater l a b x y e f = omega arith

pub same_copies : (l m a b : ℕ) → up_to l a ≡ up_to l b → up_to l (m * a) ≡ up_to l (m * b)
same_copies l m a b e = sym (up_to_times l m a) ∙ ap (λ (x : ℕ). up_to l (m * x)) e ∙ up_to_times l m b
