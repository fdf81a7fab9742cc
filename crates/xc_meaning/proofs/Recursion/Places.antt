-- The places of a program's functions, and lists of numbers without one of them.
use Rattle.std.proofs.Common.{◌≡◌, ℕ, zero, suc, ◌+◌, List, [], ◌∷◌, length, slice_get, Some, refl, subst, arith}
use Rattle.std.proofs.lemmas.Option.{none-some}
use Rattle.xc_tree.specs.Plain as plain
use Rattle.xc_kernel.specs.Programs.{functions}

-- a number that is in a list, and what is left without it
pub data Member (x : ℕ) : List ℕ → Type 0 where
  here : {xs : List ℕ} → Member x (x ∷ xs)
  behind : {y : ℕ} {xs : List ℕ} → Member x xs → Member x (y ∷ xs)

pub record Without (x : ℕ) (xs : List ℕ) : Type 0 where
  pub left : List ℕ
  pub one_less : length xs ≡ suc (length left)
  pub others : (y : ℕ) → Member y xs → (y ≡ x → ⊥) → Member y left

pub without : (x : ℕ) (xs : List ℕ) → Member x xs → Without x xs
without x [] m = elim m [ ]
without x (z ∷ xs) here = record { left = xs; one_less = refl; others = λ y m other. by y m other }
  where
    by : (y : ℕ) → Member y (x ∷ xs) → (y ≡ x → ⊥) → Member y xs
    by y here other = absurd (other refl)
    by y (behind m) other = m
without x (z ∷ xs) (behind k) = by (without x xs k)
  where
    among : (left : List ℕ) (y : ℕ) → Member y (z ∷ xs) → (Member y xs → Member y left) → Member y (z ∷ left)
    among left y here f = here
    among left y (behind m) f = behind (f m)

    by : Without x xs → Without x (z ∷ xs)
    by w = record { left = z ∷ w.left; one_less = let e = w.one_less in omega arith; others = λ y m other. among w.left y m (λ q. w.others y q other) }

-- the items that are functions, of which the first is item k
pub places : ℕ → List plain.Item → List ℕ
places k [] = []
places k (plain.port p ∷ is) = places (k + 1) is
places k (plain.function h b ∷ is) = k ∷ places (k + 1) is

pub as_many : (k : ℕ) (is : List plain.Item) → length (places k is) ≡ length (functions is)
unfolding places
as_many k [] = refl
as_many k (plain.port p ∷ is) = as_many (k + 1) is
as_many k (plain.function h b ∷ is) = let e = as_many (k + 1) is in omega arith

pub has_place : (k : ℕ) (is : List plain.Item) (j : ℕ) (h : plain.Head) (b : plain.Statement) → slice_get is j ≡ Some (plain.function h b) → Member (k + j) (places k is)
unfolding places
has_place k [] j h b e = absurd (none-some _ e)
has_place k (plain.port p ∷ is) zero h b e = absurd (cc)
has_place k (plain.function x y ∷ is) zero h b e = subst (λ (n : ℕ). Member n (k ∷ places (k + 1) is)) (sum k) here
  where
    sum : (n : ℕ) → n ≡ n + 0
    sum n = omega arith
has_place k (plain.port p ∷ is) (suc j) h b e = subst (λ (n : ℕ). Member n (places (k + 1) is)) (sum k j) (has_place (k + 1) is j h b e)
  where
    sum : (n m : ℕ) → (n + 1) + m ≡ n + suc m
    sum n m = omega arith
has_place k (plain.function x y ∷ is) (suc j) h b e = behind (subst (λ (n : ℕ). Member n (places (k + 1) is)) (sum k j) (has_place (k + 1) is j h b e))
  where
    sum : (n m : ℕ) → (n + 1) + m ≡ n + suc m
    sum n m = omega arith

pub function_place : (is : List plain.Item) (j : ℕ) (h : plain.Head) (b : plain.Statement) → slice_get is j ≡ Some (plain.function h b) → Member j (places 0 is)
function_place is j h b e = subst (λ (n : ℕ). Member n (places 0 is)) (sum j) (has_place 0 is j h b e)
  where
    sum : (n : ℕ) → 0 + n ≡ n
    sum n = omega arith
