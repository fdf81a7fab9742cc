-- Sums over the first items of lists.
use Rattle.std.proofs.Common.{◌≡◌, ℕ, zero, suc, ◌+◌, ◌<◌, ◌≤◌, List, [], ◌∷◌, Contains, Some, None, slice_get, sum_by, take, ap, ◌∙◌, arith}
use Rattle.std.proofs.lemmas.List.Sums.{sum_by-cons}
use Rattle.std.proofs.lemmas.Option.{slice_get-get_or, slice_get_within, get_or_from_slice_get}

pub some_given : {A : Type 0} {a b : A} → Some a ≡ Some b → a ≡ b
some_given e = cc

pub none_given : {A : Type 0} {a : A} → None ≡ Some a → ⊥
none_given e = cc

-- an item of a list has a place there
pub contained_at : {A : Type 0} (xs : List A) (x : A) → Contains xs x → (i : ℕ) × (slice_get xs i ≡ Some x)
contained_at xs x h = let lt = h.1 in (h.0, slice_get-get_or xs h.0 x lt ∙ ap (λ y. Some y) h.2)

pub contains_at : {A : Type 0} (xs : List A) (i : ℕ) (x : A) → slice_get xs i ≡ Some x → Contains xs x
contains_at xs i x e = (i, slice_get_within xs i x e, get_or_from_slice_get xs i x x e)

module _ {X : Type 0} (f : X → ℕ) where
  -- an item's own is within the sum over all, and within the sum over those before a later place
  pub within_all : (xs : List X) (i : ℕ) (x : X) → slice_get xs i ≡ Some x → sum_by f (take i xs) + f x ≤ sum_by f xs
  within_all [] i x e = absurd (none_given e)
  within_all (y ∷ xs) zero x e =
      let same : f y ≡ f x = ap f (some_given e) in
      let s = sum_by-cons f y xs in
      omega arith
  within_all (y ∷ xs) (suc i) x e =
      let h = within_all xs i x e in
      let s = sum_by-cons f y xs in
      let t = sum_by-cons f y (take i xs) in
      omega arith

  pub before_later : (xs : List X) (i j : ℕ) (x : X) → i < j → slice_get xs i ≡ Some x → sum_by f (take i xs) + f x ≤ sum_by f (take j xs)
  before_later [] i j x lt e = absurd (none_given e)
  before_later (y ∷ xs) i zero x lt e = absurd (let q : ⊥ = omega arith in q)
  before_later (y ∷ xs) zero (suc j) x lt e =
      let same : f y ≡ f x = ap f (some_given e) in
      let t = sum_by-cons f y (take j xs) in
      omega arith
  before_later (y ∷ xs) (suc i) (suc j) x lt e =
      let h = before_later xs i j x (omega arith) e in
      let s = sum_by-cons f y (take i xs) in
      let t = sum_by-cons f y (take j xs) in
      omega arith
