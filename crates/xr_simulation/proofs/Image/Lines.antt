-- The lines of an image: each is that of a channel of the kernel.
use Rattle.std.proofs.Common.{◌≡◌, ◌⊎◌, ℕ, zero, suc, ◌+◌, ◌<◌, Bool, true, false, List, [], ◌∷◌, ◌++◌, length, Some, refl, sym, ⊎_elim, inl, inr, arith}
use Rattle.std.specs.Prelude.{slice_get}
use Rattle.std.proofs.lemmas.Option.{same_Some}
use Rattle.xc_kernel.specs.Branches.{has_two_sides}
use Rattle.xc_kernel.specs.Plain as kernel
use Rattle.xr_match.specs.Sides.{two_sided_among, where_so}
use Rattle.xr_simulation.specs.Wired.{IsLine}

-- an item of two lists is one of the first, or of the second
append_cases : (xs ys : List ℕ) (i c : ℕ) → slice_get (xs ++ ys) i ≡ Some c → (slice_get xs i ≡ Some c) ⊎ ((k : ℕ) × (i ≡ length xs + k) × (slice_get ys k ≡ Some c))
append_cases [] ys i c e = inr (i, omega arith, e)
append_cases (x ∷ xs) ys zero c e = inl e
append_cases (x ∷ xs) ys (suc i) c e = by (append_cases xs ys i c e)
  where
    by : (slice_get xs i ≡ Some c) ⊎ ((k : ℕ) × (i ≡ length xs + k) × (slice_get ys k ≡ Some c)) → (slice_get (x ∷ xs) (suc i) ≡ Some c) ⊎ ((k : ℕ) × (suc i ≡ length (x ∷ xs) + k) × (slice_get ys k ≡ Some c))
    by (inl h) = inl h
    by (inr h) = let e = h.1 in inr (h.0, omega (arith, e), h.2)

-- the one channel that is listed where it has two sides
only_one : (b : Bool) (n k c : ℕ) → slice_get (where_so b n) k ≡ Some c → (k ≡ 0) × (c ≡ n)
only_one true n zero c e = (refl, sym (same_Some n c e))
only_one true n (suc k) c e = cc
only_one false n k c e = cc

module _ (K : kernel.Kernel) where
  -- a channel is listed behind those before the n-th
  abbrev IsLast : (n line c : ℕ) → Type 0
  IsLast n line c = (k : ℕ) × (line ≡ length (two_sided_among K n) + k) × (slice_get (where_so (has_two_sides K n) n) k ≡ Some c)

  known_among : (n line c : ℕ) → slice_get (two_sided_among K n) line ≡ Some c → c < n
  known_among zero line c e = cc
  known_among (suc n) line c e =
      ⊎_elim
      (λ (h : slice_get (two_sided_among K n) line ≡ Some c). let lt = known_among n line c h in let z : c < suc n = omega (arith, lt) in z)
      (λ (h : IsLast n line c). let same = (only_one (has_two_sides K n) n h.0 c h.2).1 in let z : c < suc n = omega (arith, same) in z)
      (append_cases (two_sided_among K n) (where_so (has_two_sides K n) n) line c e)

  -- a line's channel is one of the kernel's
  pub line_known : (line c : ℕ) → IsLine K line c → c < length K.channels
  line_known line c e = known_among (length K.channels) line c e
