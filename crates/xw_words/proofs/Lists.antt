-- What a list has at a place: the items from a place on, a list that grows at its end, one that is written to, two in a row.
use Rattle.std.proofs.Common.{◌≡◌, ℕ, ◌+◌, ◌<◌, ◌⊎◌, inl, inr, zero, suc, List, [], ◌∷◌, ◌++◌, length, take, drop}
use Rattle.std.proofs.Common.{get_or, slice_get, slice_set, ◌≢◌, Some, refl, sym, ap, subst, ◌∙◌, add-one, arith, length-append}
use Rattle.std.proofs.Math.Seq.{take-suc, drop-cons, get_or-append_seam}
use Rattle.std.proofs.lemmas.List.{length-set, get_or-set_same, get_or-set_other}
use Rattle.std.proofs.Math.ListN.{get_or-append}
use Rattle.std.proofs.lemmas.Option.{slice_get-get_or, slice_get_read, slice_get_within, get_or_from_slice_get}

pub some_same : {A : Type 0} (a b : A) → Some a ≡ Some b → a ≡ b
some_same a b e = cc

-- the item at a place comes before those behind it
pub drop_item : {A : Type 0} (xs : List A) (i : ℕ) (x : A) → x ≡ get_or xs i x → i < length xs → drop i xs ≡ x ∷ drop (i + 1) xs
drop_item xs i x e h = rw (add-one, drop-cons xs i x) (ap (λ y. y ∷ drop (suc i) xs) (sym e))

pub drop_found : {A : Type 0} (xs : List A) (i : ℕ) (x : A) → slice_get xs i ≡ Some x → drop i xs ≡ x ∷ drop (i + 1) xs
drop_found xs i x e =
    let less = slice_get_within xs i x e in
    rw (add-one, drop-cons xs i x less) (ap (λ y. y ∷ drop (suc i) xs) (get_or_from_slice_get xs i x x e))

-- a place of a list with one more is a place of the list or the new one
pub below_or_at : (a b : ℕ) → a < b + 1 → (a < b) ⊎ (a ≡ b)
below_or_at a b h = grind arith

pub push_before : {A : Type 0} (xs : List A) (x : A) (i : ℕ) → i < length xs → slice_get (xs ++ x ∷ []) i ≡ slice_get xs i
push_before xs x i h =
    let long : length (xs ++ x ∷ []) ≡ length xs + 1 = length-append xs (x ∷ []) in
    let more : i < length (xs ++ x ∷ []) = omega arith in
    slice_get-get_or (xs ++ x ∷ []) i x more ∙ ap Some (get_or-append xs (x ∷ []) x i h) ∙ sym (slice_get-get_or xs i x h)

pub push_at : {A : Type 0} (xs : List A) (x : A) (i : ℕ) → i ≡ length xs → slice_get (xs ++ x ∷ []) i ≡ Some x
push_at xs x i e =
    let long : length (xs ++ x ∷ []) ≡ length xs + 1 = length-append xs (x ∷ []) in
    rw e (slice_get_read (xs ++ x ∷ []) (length xs + 1) (length xs) x (sym long) (omega arith) (sym (get_or-append_seam xs x [] x)))

pub length_push : {A : Type 0} (xs : List A) (x : A) (n : ℕ) → length xs ≡ n → length (xs ++ x ∷ []) ≡ n + 1
length_push xs x n e = length-append xs (x ∷ []) ∙ ap (λ m. m + 1) e

-- an item of a list with one more is an item of the list or the new one
pub pushed : {A : Type 0} (xs : List A) (x y : A) (i : ℕ) → slice_get (xs ++ x ∷ []) i ≡ Some y →
    (slice_get xs i ≡ Some y) ⊎ ((i ≡ length xs) × (x ≡ y))
pushed {A = A} xs x y i e =
    let long : length (xs ++ x ∷ []) ≡ length xs + 1 = length-append xs (x ∷ []) in
    let less : i < length (xs ++ x ∷ []) = slice_get_within (xs ++ x ∷ []) i y e in
    by (below_or_at i (length xs) (omega arith))
  where
    by : (i < length xs) ⊎ (i ≡ length xs) → (slice_get xs i ≡ Some y) ⊎ ((i ≡ length xs) × (x ≡ y))
    by (inl h) = inl (sym (push_before xs x i h) ∙ e)
    by (inr h) = inr (h, some_same x y (sym (push_at xs x i h) ∙ e))

pub take_push : {A : Type 0} (xs : List A) (i : ℕ) (x : A) → slice_get xs i ≡ Some x → take (i + 1) xs ≡ take i xs ++ x ∷ []
take_push {A = A} xs i x e =
    let less : i < length xs = slice_get_within xs i x e in
    rw add-one (take-suc xs i x less ∙ ap (λ y. take i xs ++ y ∷ []) (get_or_from_slice_get xs i x x e))

pub set_at : {A : Type 0} (xs : List A) (i : ℕ) (x : A) → i < length xs → slice_get (slice_set xs i x) i ≡ Some x
set_at xs i x h =
    let less = subst (λ (n : ℕ). i < n) (sym (length-set xs i x)) h in
    slice_get-get_or (slice_set xs i x) i x less ∙ ap Some (get_or-set_same xs i x x h)

pub set_other : {A : Type 0} (xs : List A) (i j : ℕ) (x : A) → j ≢ i → j < length xs → slice_get (slice_set xs i x) j ≡ slice_get xs j
set_other xs i j x n h =
    let less = subst (λ (m : ℕ). j < m) (sym (length-set xs i x)) h in
    slice_get-get_or (slice_set xs i x) j x less ∙ ap Some (get_or-set_other xs i j x x n) ∙ sym (slice_get-get_or xs j x h)

-- what stands at a place of two lists stands in one of them
pub in_one : {A : Type 0} (xs ys : List A) (u : ℕ) (x : A) → slice_get (xs ++ ys) u ≡ Some x →
    (slice_get xs u ≡ Some x) ⊎ ((v : ℕ) × (u ≡ length xs + v) × (slice_get ys v ≡ Some x))
in_one [] ys u x h = inr (u, omega arith, h)
in_one (y ∷ xs) ys zero x h = inl h
in_one {A = A} (y ∷ xs) ys (suc u) x h = by (in_one xs ys u x h)
  where
    by : (slice_get xs u ≡ Some x) ⊎ ((v : ℕ) × (u ≡ length xs + v) × (slice_get ys v ≡ Some x)) →
        (slice_get (y ∷ xs) (suc u) ≡ Some x) ⊎ ((v : ℕ) × (suc u ≡ length (y ∷ xs) + v) × (slice_get ys v ≡ Some x))
    by (inl e) = inl e
    by (inr (v, e, g)) = inr (v, omega arith, g)

pub at_front : {A : Type 0} (xs : List A) (x : A) (ys : List A) → slice_get (xs ++ x ∷ ys) (length xs) ≡ Some x
at_front [] x ys = refl
at_front (y ∷ xs) x ys = at_front xs x ys

pub drop_front : {A : Type 0} (xs ys : List A) → drop (length xs) (xs ++ ys) ≡ ys
drop_front [] ys = refl
drop_front (x ∷ xs) ys = drop_front xs ys
