-- Reading a list after one item was written, and code that stands in a listing.
use Rattle.std.proofs.Common.{◌≡◌, ℕ, zero, suc, ◌+◌, ◌/◌, ◌<◌, ◌≤◌, ◌≢◌, Bool, true, false, List, [], ◌∷◌, ◌++◌, length, Some, refl, sym, ap, ◌∙◌, subst, ⊎_elim, get_or, arith}
use Rattle.std.proofs.lemmas.Bool.{cases_eq}
use Rattle.std.specs.Prelude.{slice_get, slice_set}
use Rattle.std.proofs.lemmas.Option.{slice_get-get_or, slice_get_within}
use Rattle.xs_instr.specs.declared.image.Code.{Code}
use Rattle.xs_instr.specs.Memory.{word_by}
use Rattle.xs_instr.specs.Lines.{Line}
use Rattle.xs_instr.specs.OwnSteps.{StandAt, temporary}

pub get_set_same : {X : Type 0} (xs : List X) (i : ℕ) (x y : X) → slice_get xs i ≡ Some x → slice_get (slice_set xs i y) i ≡ Some y
get_set_same [] i x y h = cc
get_set_same (z ∷ xs) zero x y h = refl
get_set_same (z ∷ xs) (suc i) x y h = get_set_same xs i x y h

pub get_set_other : {X : Type 0} (xs : List X) (i j : ℕ) (y : X) → j ≢ i → slice_get (slice_set xs i y) j ≡ slice_get xs j
get_set_other [] i j y h = refl
get_set_other (z ∷ xs) zero zero y h = absurd (h refl)
get_set_other (z ∷ xs) zero (suc j) y h = refl
get_set_other (z ∷ xs) (suc i) zero y h = refl
get_set_other (z ∷ xs) (suc i) (suc j) y h = get_set_other xs i j y (λ e. h (ap suc e))

pub get_set_both : {X : Type 0} (xs ys : List X) (i j : ℕ) (x y : X) → slice_get xs i ≡ Some x → slice_get ys i ≡ slice_get xs i → slice_get ys j ≡ slice_get xs j → slice_get (slice_set ys i y) j ≡ slice_get (slice_set xs i y) j
get_set_both xs ys i j x y h at_i at_j =
    ⊎_elim
    (λ e. subst (λ k. slice_get (slice_set ys i y) k ≡ slice_get (slice_set xs i y) k) (sym e) (get_set_same ys i x y (at_i ∙ h) ∙ sym (get_set_same xs i x y h)))
    (λ ne. get_set_other ys i j y ne ∙ at_j ∙ sym (get_set_other xs i j y ne))
    (cases_eq j i)

pub word_by_same : (xs ys : List ℕ) (address : ℕ) (b : Bool) → slice_get ys (address / 4) ≡ slice_get xs (address / 4) → word_by ys address b ≡ word_by xs address b
word_by_same xs ys address true h = h
word_by_same xs ys address false h = refl

pub stand_front : (code : Code) (pc : ℕ) (a b : List Line) → StandAt code pc (a ++ b) → StandAt code pc a
stand_front code pc [] b h = tt
stand_front code pc (i ∷ a) b h = (h.0, h.1, stand_front code (pc + 1) a b h.2)

pub stand_back : (code : Code) (pc : ℕ) (a b : List Line) → StandAt code pc (a ++ b) → StandAt code (pc + length a) b
stand_back code pc [] b h = let e : pc ≡ pc + 0 = omega arith in subst (λ n. StandAt code n b) e h
stand_back code pc (i ∷ a) b h =
    let e : pc + 1 + length a ≡ pc + length (i ∷ a) = omega arith in
    subst (λ n. StandAt code n b) e (stand_back code (pc + 1) a b h.2)

-- the temporary words are there still where the words that are relied on are
pub room_kept : (relied : ℕ → Bool) (s : ℕ) → ((k : ℕ) → k < temporary → relied (s + k) ≡ true) → (xs ys : List ℕ) → s + temporary ≤ length xs → ((w : ℕ) → relied w ≡ true → slice_get ys w ≡ slice_get xs w) → s + temporary ≤ length ys
room_kept relied s mine xs ys room same =
    let x = get_or xs (s + 511) 0 in
    let there : slice_get xs (s + 511) ≡ Some x = slice_get-get_or xs (s + 511) 0 (omega arith) in
    let last = slice_get_within ys (s + 511) x (same (s + 511) (mine 511 (omega arith)) ∙ there) in
    omega arith
