-- Sums over the first numbers.
use Rattle.std.proofs.Common.{◌≡◌, inl, inr, ⊎_elim, ℕ, zero, suc, ◌+◌, ◌<◌, ◌≤◌, Bool, true, false, ◌||◌, List, [], ◌∷◌, length, Option, Some, None, nat_eq, refl, sym, ap, ◌∙◌, subst, arith}
use Rattle.std.specs.Prelude.{not, slice_get}
use Rattle.xs_instr.specs.declared.state.Thread.{Thread}
use Rattle.xs_instr.specs.Pool.{first_free, is_unused, threads_taken}
use Rattle.xs_instr.specs.Resources.{is_num}
use Rattle.xc_meaning.proofs.Basics.{some_given, none_given}
use Rattle.xc_invariants.specs.Needs.{total_of}
use Rattle.xl_par.specs.Acquired.{IsAmong, one_if, unused_in}
use Rattle.xr_simulation.specs.Roles.{IsOnce}

-- of a function at 0, 1, ..
abbrev pub sum : ℕ → (ℕ → ℕ) → ℕ
sum zero f = 0
sum (suc n) f = f 0 + sum n (λ i. f (suc i))

pub sum_most : (n : ℕ) (f h : ℕ → ℕ) → ((t : ℕ) → t < n → f t ≤ h t) → sum n f ≤ sum n h
sum_most zero f h le = omega arith
sum_most (suc n) f h le =
    let a = le 0 (omega arith) in
    let b = sum_most n (λ i. f (suc i)) (λ i. h (suc i)) (λ t lt. le (suc t) (omega arith)) in
    omega arith

pub sum_add : (n : ℕ) (f h : ℕ → ℕ) → sum n (λ t. f t + h t) ≡ sum n f + sum n h
sum_add zero f h = refl
sum_add (suc n) f h = let b = sum_add n (λ i. f (suc i)) (λ i. h (suc i)) in omega (arith, b)

pub sum_one : (n t : ℕ) (f : ℕ → ℕ) → t < n → f t ≤ sum n f
sum_one zero t f lt = absurd (let z : ⊥ = omega (arith, lt) in z)
sum_one (suc n) zero f lt = omega arith
sum_one (suc n) (suc t) f lt = let b = sum_one n t (λ i. f (suc i)) (omega (arith, lt)) in omega (arith, b)

pub sum_same : (n : ℕ) (f h : ℕ → ℕ) → ((t : ℕ) → f t ≡ h t) → sum n f ≡ sum n h
sum_same zero f h e = refl
sum_same (suc n) f h e =
    let a = e 0 in
    let b = sum_same n (λ i. f (suc i)) (λ i. h (suc i)) (λ t. e (suc t)) in
    omega (arith, a, b)

sum_none : (n : ℕ) → sum n (λ t. 0) ≡ 0
sum_none zero = refl
sum_none (suc n) = let b = sum_none n in omega (arith, b)

pub sum_swap : (n m : ℕ) (f : ℕ → ℕ → ℕ) → sum n (λ i. sum m (λ j. f i j)) ≡ sum m (λ j. sum n (λ i. f i j))
sum_swap zero m f = sym (sum_none m)
sum_swap (suc n) m f =
    let a = sum_add m (λ j. f 0 j) (λ j. sum n (λ i. f (suc i) j)) in
    let b = sum_swap n m (λ i. f (suc i)) in
    let c : sum m (λ j. sum (suc n) (λ i. f i j)) ≡ sum m (λ j. f 0 j + sum n (λ i. f (suc i) j)) = refl in
    omega (arith, a, b, c)

eq_true : (a b : ℕ) → a ≡ b → nat_eq a b ≡ true
eq_true a b e = grind arith

eq_from : (a b : ℕ) → nat_eq a b ≡ true → a ≡ b
eq_from a b e = grind arith

not_zero : (i : ℕ) → nat_eq (suc i) 0 ≡ false
not_zero i = grind arith

zero_not : (i : ℕ) → nat_eq 0 (suc i) ≡ false
zero_not i = grind arith

eq_suc : (a b : ℕ) → nat_eq (suc a) (suc b) ≡ nat_eq a b
eq_suc a b = same (nat_eq (suc a) (suc b)) (nat_eq a b) (λ e. eq_true a b (let f = eq_from (suc a) (suc b) e in omega (arith, f))) (λ e. eq_true (suc a) (suc b) (let f = eq_from a b e in omega (arith, f)))
  where
    same : (b c : Bool) → (b ≡ true → c ≡ true) → (c ≡ true → b ≡ true) → b ≡ c
    same true c f h = sym (f refl)
    same false true f h = h refl
    same false false f h = refl

zero_met : one_if (nat_eq 0 0) ≤ 1
zero_met = omega arith

-- a number is met at most once
pub met_once : (n v : ℕ) → sum n (λ u. one_if (nat_eq u v)) ≤ 1
met_once zero v = omega arith
met_once (suc n) zero =
    let e = sum_same n (λ i. one_if (nat_eq (suc i) 0)) (λ i. 0) (λ i. ap one_if (not_zero i)) in
    let f = sum_none n in
    omega (arith, e, f, zero_met)
met_once (suc n) (suc v) =
    let e = sum_same n (λ i. one_if (nat_eq (suc i) (suc v))) (λ i. one_if (nat_eq i v)) (λ i. ap one_if (eq_suc i v)) in
    let b = met_once n v in
    let z = ap one_if (zero_not v) in
    omega (arith, e, b, z)

-- whether a number is among others
abbrev pub among : List ℕ → ℕ → Bool
among [] u = false
among (v ∷ vs) u = nat_eq u v || among vs u

one_of_both : (a b : Bool) → one_if (a || b) ≤ one_if a + one_if b
one_of_both true b = omega arith
one_of_both false b = omega arith

-- no more numbers are among a list than it has
pub among_few : (n : ℕ) (vs : List ℕ) → sum n (λ u. one_if (among vs u)) ≤ length vs
among_few n [] = let e = sum_none n in omega (arith, e)
among_few n (v ∷ vs) =
    let a = sum_most n (λ u. one_if (nat_eq u v || among vs u)) (λ u. one_if (nat_eq u v) + one_if (among vs u)) (λ t lt. one_of_both (nat_eq t v) (among vs t)) in
    let b = sum_add n (λ u. one_if (nat_eq u v)) (λ u. one_if (among vs u)) in
    let c = met_once n v in
    let d = among_few n vs in
    omega (arith, a, b, c, d)

or_true : (a b : Bool) → a ≡ true → (a || b) ≡ true
or_true a b e = ap (λ c. c || b) e

or_true_right : (a b : Bool) → b ≡ true → (a || b) ≡ true
or_true_right true b e = refl
or_true_right false b e = e

pub among_true : (vs : List ℕ) (u : ℕ) → IsAmong vs u → among vs u ≡ true
among_true [] u h = absurd h
among_true (v ∷ vs) u h =
    ⊎_elim (λ e. or_true (nat_eq u v) (among vs u) (eq_true u v e)) (λ m. or_true_right (nat_eq u v) (among vs u) (among_true vs u m)) h

-- a number that may be there is at most one
abbrev pub one_some : Option ℕ → ℕ
one_some None = 0
one_some (Some n) = 1

num_once : (n m k : ℕ) → sum n (λ u. one_if (nat_eq m u)) ≤ 1
num_once n m k =
    let a = sum_most n (λ u. one_if (nat_eq m u)) (λ u. one_if (nat_eq u m)) (λ t lt. flipped m t) in
    let b = met_once n m in
    omega (arith, a, b)
  where
    flipped_by : (b c : Bool) → ((b ≡ true) → c ≡ true) → one_if b ≤ one_if c
    flipped_by true c h = let e = ap one_if (h refl) in omega (arith, e)
    flipped_by false c h = omega arith

    flipped : (a b : ℕ) → one_if (nat_eq a b) ≤ one_if (nat_eq b a)
    flipped a b = flipped_by (nat_eq a b) (nat_eq b a) (λ e. eq_true b a (sym (eq_from a b e)))

pub named_once : (n : ℕ) (o : Option ℕ) → sum n (λ u. one_if (is_num o u)) ≤ one_some o
named_once n None = let e = sum_none n in omega (arith, e)
named_once n (Some m) = num_once n m 0

pub named_true : (o : Option ℕ) (n : ℕ) → o ≡ Some n → is_num o n ≡ true
named_true o n e = ap (λ p. is_num p n) e ∙ eq_true n n refl

-- of differing numbers at most one is this one
none_named : (m : ℕ) (ns : List ℕ) → (IsAmong ns m → ⊥) → total_of (λ n. one_if (nat_eq m n)) ns ≡ 0
none_named m [] h = refl
none_named m (n ∷ ns) h =
    let a = other (nat_eq m n) refl in
    let b = none_named m ns (λ i. h (inr i)) in
    omega (arith, a, b)
  where
    other : (b : Bool) → nat_eq m n ≡ b → one_if (nat_eq m n) ≡ 0
    other true e = absurd (h (inl (eq_from m n e)))
    other false e = ap one_if e

one_named : (m : ℕ) (ns : List ℕ) → IsOnce ns → total_of (λ n. one_if (nat_eq m n)) ns ≤ 1
one_named m [] h = omega arith
one_named m (n ∷ ns) h = by (one_named m ns h.1) (nat_eq m n) refl
  where
    by : total_of (λ k. one_if (nat_eq m k)) ns ≤ 1 → (b : Bool) → nat_eq m n ≡ b → one_if (nat_eq m n) + total_of (λ k. one_if (nat_eq m k)) ns ≤ 1
    by on true e =
        let a = ap one_if e in
        let b = none_named m ns (λ i. h.0 (subst (IsAmong ns) (eq_from m n e) i)) in
        omega (arith, a, b)
    by on false e = let a = ap one_if e in omega (arith, a, on)

pub some_named : (o : Option ℕ) (ns : List ℕ) → IsOnce ns → total_of (λ n. one_if (is_num o n)) ns ≤ one_some o
some_named None ns h = let e = nothing ns in omega (arith, e)
  where
    nothing : (ms : List ℕ) → total_of (λ n. one_if (is_num None n)) ms ≡ 0
    nothing [] = refl
    nothing (m ∷ ms) = let e = nothing ms in omega (arith, e)
some_named (Some m) ns h = one_named m ns h

-- sums over a list and over numbers
pub total_swap : (n : ℕ) (f : ℕ → ℕ → ℕ) (ns : List ℕ) → total_of (λ k. sum n (λ t. f k t)) ns ≡ sum n (λ t. total_of (λ k. f k t) ns)
total_swap n f [] = sym (sum_none n)
total_swap n f (k ∷ ns) =
    let a = sum_add n (λ t. f k t) (λ t. total_of (λ j. f j t) ns) in
    let b = total_swap n f ns in
    let c : sum n (λ t. total_of (λ j. f j t) (k ∷ ns)) ≡ sum n (λ t. f k t + total_of (λ j. f j t) ns) = refl in
    omega (arith, a, b, c)

pub total_least : (f : ℕ → ℕ) (ns : List ℕ) → ((n : ℕ) → IsAmong ns n → 1 ≤ f n) → length ns ≤ total_of f ns
total_least f [] h = omega arith
total_least f (n ∷ ns) h =
    let a = h n (inl refl) in
    let b = total_least f ns (λ m i. h m (inr i)) in
    omega (arith, a, b)

-- Threads and synchronisers.

pub unused_many : (xs : List Thread) (f : ℕ → ℕ) → ((i : ℕ) (x : Thread) → slice_get xs i ≡ Some x → f i ≤ one_if (is_unused x.mode)) → sum (length xs) f ≤ unused_in xs
unused_many [] f h = omega arith
unused_many (x ∷ xs) f h =
    let a = h 0 x refl in
    let b = unused_many xs (λ i. f (suc i)) (λ i y e. h (suc i) y e) in
    omega (arith, a, b)

-- the first that is unused stands behind so many that aren't
pub first_behind : (xs : List Thread) (f : ℕ → ℕ) (k u : ℕ) → ((i : ℕ) (x : Thread) → slice_get xs i ≡ Some x → is_unused x.mode ≡ false → 1 ≤ f i) →
    first_free (threads_taken xs) k ≡ Some u → u ≤ k + sum (length xs) f
first_behind [] f k u h e = absurd (none_given e)
first_behind (x ∷ xs) f k u h e = by (first_behind xs (λ i. f (suc i)) (suc k) u (λ i y r. h (suc i) y r)) (is_unused x.mode) refl
  where
    by : (first_free (threads_taken xs) (suc k) ≡ Some u → u ≤ suc k + sum (length xs) (λ i. f (suc i))) → (b : Bool) → is_unused x.mode ≡ b → u ≤ k + sum (length (x ∷ xs)) f
    by next true q =
        let s : first_free (threads_taken (x ∷ xs)) k ≡ Some k = ap (λ b. first_free (not b ∷ threads_taken xs) k) q in
        let same : k ≡ u = some_given (sym s ∙ e) in
        omega (arith, same)
    by next false q =
        let s : first_free (threads_taken (x ∷ xs)) k ≡ first_free (threads_taken xs) (suc k) = ap (λ b. first_free (not b ∷ threads_taken xs) k) q in
        let on = next (sym s ∙ e) in
        let a = h 0 x refl q in
        omega (arith, on, a)

abbrev pub taken_in : List Bool → ℕ
taken_in [] = 0
taken_in (b ∷ bs) = one_if b + taken_in bs

pub taken_few : (bs : List Bool) (f : ℕ → ℕ) → ((i : ℕ) → slice_get bs i ≡ Some true → 1 ≤ f i) → taken_in bs ≤ sum (length bs) f
taken_few [] f h = omega arith
taken_few (true ∷ bs) f h =
    let a = h 0 refl in
    let b = taken_few bs (λ i. f (suc i)) (λ i e. h (suc i) e) in
    omega (arith, a, b)
taken_few (false ∷ bs) f h = let b = taken_few bs (λ i. f (suc i)) (λ i e. h (suc i) e) in omega (arith, b)

-- where not all are taken, one is free
pub one_free : (bs : List Bool) → taken_in bs < length bs → (n : ℕ) × (slice_get bs n ≡ Some false)
one_free [] h = absurd (let z : ⊥ = omega (arith, h) in z)
one_free (true ∷ bs) h = let f = one_free bs (omega (arith, h)) in (suc f.0, f.1)
one_free (false ∷ bs) h = (0, refl)
