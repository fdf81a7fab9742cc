-- Answers for channels, as they are marked one code after the other.
use Rattle.std.proofs.Common.{◌≡◌, ℕ, zero, suc, ◌+◌, ◌<◌, ◌≤◌, Bool, true, false, ◌||◌, nat_eq, List, [], ◌∷◌, ◌++◌, length, map, replicate, take, refl, sym, ap, ap₂, ◌∙◌, arith}
use Rattle.std.proofs.Math.Seq.{take-append_seam}
use Rattle.std.proofs.lemmas.Bool.Decides.{nat_tests}
use Rattle.std.specs.List.{range_with_len}
use Rattle.std.specs.Prelude.{slice_set}
use Rattle.xl_ends.specs.Uses.{marked, marked_from}

pub or_false : (a b : Bool) → b ≡ false → (a || b) ≡ a
or_false true b e = refl
or_false false b e = e

or_assoc : (a b c : Bool) → ((a || b) || c) ≡ (a || (b || c))
or_assoc true b c = refl
or_assoc false b c = refl

-- a test that no channel from a number on passes marks none
none_from : (k : ℕ) (f : ℕ → Bool) (us : List Bool) → ((c : ℕ) → k ≤ c → f c ≡ false) → marked_from k f us ≡ us
none_from k f [] none = refl
none_from k f (u ∷ us) none =
    ap₂ ◌∷◌ (or_false u (f k) (none k (omega arith))) (none_from (k + 1) f us (λ c le. none c (omega arith)))

pub marks_none : (f : ℕ → Bool) (us : List Bool) → ((c : ℕ) → f c ≡ false) → us ≡ marked f us
marks_none f us none = sym (none_from 0 f us (λ c le. none c))

both_from : (k : ℕ) (f g : ℕ → Bool) (us : List Bool) → marked_from k g (marked_from k f us) ≡ marked_from k (λ c. f c || g c) us
both_from k f g [] = refl
both_from k f g (u ∷ us) = ap₂ ◌∷◌ (or_assoc u (f k) (g k)) (both_from (k + 1) f g us)

-- two tests that agree mark the same
pub marks_as : (f g : ℕ → Bool) (us new : List Bool) → new ≡ marked f us → ((c : ℕ) → f c ≡ g c) → new ≡ marked g us
marks_as f g us new is same = is ∙ ap (λ (h : ℕ → Bool). marked h us) (λ j c. same c j)

-- one test marks, and then another
pub marks_both : (f g : ℕ → Bool) (us mid new : List Bool) → mid ≡ marked f us → new ≡ marked g mid → new ≡ marked (λ c. f c || g c) us
marks_both f g us mid new first second = second ∙ ap (marked g) first ∙ both_from 0 f g us

-- of two tests one has marked
pub marks_on : (f g h : ℕ → Bool) (all us new : List Bool) → all ≡ marked h us → ((c : ℕ) → h c ≡ (f c || g c)) → new ≡ marked f us → all ≡ marked g new
marks_on f g h all us new whole same is =
    marks_as h (λ c. f c || g c) us all whole same ∙ sym (both_from 0 f g us) ∙ ap (marked g) (sym is)

-- one channel

is_itself : (n : ℕ) → nat_eq n n ≡ true
is_itself n = grind (arith, nat_tests)

is_other : (m n : ℕ) → n < m → nat_eq m n ≡ false
is_other m n lt = grind (arith, nat_tests)

or_true : (a b : Bool) → b ≡ true → (a || b) ≡ true
or_true true b e = refl
or_true false b e = e

one_from : (k i n : ℕ) (us : List Bool) → k + i ≡ n → slice_set us i true ≡ marked_from k (λ c. nat_eq c n) us
one_from k i n [] at = refl
one_from k zero n (u ∷ us) at =
    let here : k ≡ n = omega arith in
    ap₂ ◌∷◌ (sym (or_true u (nat_eq k n) (ap (nat_eq k) (sym here) ∙ is_itself k)))
    (sym (none_from (k + 1) (λ c. nat_eq c n) us (λ c le. is_other c n (omega arith))))
one_from k (suc i) n (u ∷ us) at =
    ap₂ ◌∷◌ (sym (or_false u (nat_eq k n) (other k n (omega arith)))) (one_from (k + 1) i n us (omega arith))
  where
    other : (k n : ℕ) → k < n → nat_eq k n ≡ false
    other k n lt = grind (arith, nat_tests)

pub marks_one : (n : ℕ) (us : List Bool) → slice_set us n true ≡ marked (λ c. nat_eq c n) us
marks_one n us = one_from 0 n n us (omega arith)

-- marks on answers that are all false
all_from : (k n : ℕ) (f : ℕ → Bool) → marked_from k f (replicate n false) ≡ map f (range_with_len k n)
all_from k zero f = refl
all_from k (suc n) f = ap (λ us. f k ∷ us) (all_from (k + 1) n f)

pub marks_all : (n : ℕ) (f : ℕ → Bool) (us new : List Bool) → us ≡ replicate n false → new ≡ marked f us → new ≡ map f (range_with_len 0 n)
marks_all n f us new none is = is ∙ ap (marked f) none ∙ all_from 0 n f

-- the first items of two lists that are joined
pub front_of : (n : ℕ) (xs ys : List Bool) → length xs ≡ n → take n (xs ++ ys) ≡ xs
front_of n xs ys many = ap (λ (k : ℕ). take k (xs ++ ys)) (sym many) ∙ take-append_seam xs ys
