-- Threads and synchronisers of a core: who is tied, who waits, and what a start and a join leave.
use Rattle.std.proofs.Common.{◌≡◌, ℕ, zero, suc, ◌+◌, Bool, true, false, List, [], ◌∷◌, Option, Some, None, length, refl, sym, ap, ◌∙◌, subst, arith, eq-eqb}
use Rattle.std.specs.Prelude.{slice_get, not, option_map, ◌&&◌, ◌||◌}
use Rattle.std.proofs.lemmas.Bool.{eqb-true}
use Rattle.xs_instr.specs.declared.state.Mode.{Mode}
use Rattle.xs_instr.specs.declared.state.Mode.TheVariants.{Unused, Waiting, Running, Trapped}
use Rattle.xs_instr.specs.declared.state.Thread.{Thread}
use Rattle.xs_instr.specs.Pool.{all_joined, all_started, all_wait, first_free, is_tied, is_waiting, joined_by, some_tied, started_by, threads_taken}
use Rattle.xs_instr.specs.Resources.{is_num}
use Rattle.xl_par.proofs.Pools.{TiedWait, free_thread}

-- the first free place is free
first_is_free : (taken : List Bool) (from n : ℕ) → first_free taken from ≡ Some n → (k : ℕ) × (n ≡ from + k) × (slice_get taken k ≡ Some false)
first_is_free [] from n h = cc
first_is_free (false ∷ taken) from n h = let e : from ≡ n = cc in (0, (let s = sym e in omega arith), refl)
first_is_free (true ∷ taken) from n h = let on = first_is_free taken (suc from) n h in (suc on.0, (let e = on.1 in omega arith), on.2)

pub first_free_is : (taken : List Bool) (n : ℕ) → first_free taken 0 ≡ Some n → slice_get taken n ≡ Some false
first_free_is taken n h =
    let f = first_is_free taken 0 n h in
    let e : f.0 ≡ n = let s = f.1 in omega arith in
    subst (λ k. slice_get taken k ≡ Some false) e f.2

-- so the first unused thread is unused
pub first_unused : (xs : List Thread) (u : ℕ) (x : Thread) → first_free (threads_taken xs) 0 ≡ Some u → slice_get xs u ≡ Some x → x.mode ≡ Unused
first_unused xs u x first there =
    let f = free_thread xs u (first_free_is (threads_taken xs) u first) in
    let same : f.0 ≡ x = (let e : Some f.0 ≡ Some x = sym f.1 ∙ there in cc) in
    ap (λ (y : Thread). y.mode) (sym same) ∙ f.2

-- Who is tied to a synchroniser.

pub num_same : (o : Option ℕ) (n : ℕ) → o ≡ Some n → is_num o n ≡ true
num_same o n e = ap (λ k. is_num k n) e ∙ eq-eqb n n refl

pub num_is : (o : Option ℕ) (n : ℕ) → is_num o n ≡ true → o ≡ Some n
num_is None n h = cc
num_is (Some m) n h = ap Some (eqb-true m n h)

pub waiting_is : (m : Mode) → is_waiting m ≡ true → m ≡ Waiting
waiting_is Unused h = cc
waiting_is Waiting h = refl
waiting_is Running h = cc
waiting_is Trapped h = cc

both_first : (a b : Bool) → (a && b) ≡ true → a ≡ true
both_first true b h = refl
both_first false b h = h

both_second : (a b : Bool) → (a && b) ≡ true → b ≡ true
both_second true b h = h
both_second false b h = cc

waits_by : (b : Bool) (m : Mode) → (not b || is_waiting m) ≡ true → b ≡ true → is_waiting m ≡ true
waits_by true m h e = h
waits_by false m h e = cc

-- where all wait, each that is tied does
pub tied_wait : (xs : List Thread) (n : ℕ) → all_wait xs n ≡ true → TiedWait xs n
tied_wait xs n h = record { wait = λ u x e t. by xs u x e h t }
  where
    by : (ys : List Thread) (u : ℕ) (x : Thread) → slice_get ys u ≡ Some x → all_wait ys n ≡ true → is_tied x n ≡ true → x.mode ≡ Waiting
    by [] u x e h t = cc
    by (y ∷ ys) zero x e h t =
        let same : y ≡ x = cc in
        let first = both_first (not (is_tied y n) || is_waiting y.mode) (all_wait ys n) h in
        waiting_is x.mode (waits_by (is_tied x n) x.mode (subst (λ (z : Thread). (not (is_tied z n) || is_waiting z.mode) ≡ true) same first) t)
    by (y ∷ ys) (suc u) x e h t = by ys u x e (both_second (not (is_tied y n) || is_waiting y.mode) (all_wait ys n) h) t

-- what the start of the tied threads leaves
pub started_at : (xs : List Thread) (n u : ℕ) → slice_get (all_started xs n) u ≡ option_map (λ (x : Thread). started_by x (is_tied x n)) (slice_get xs u)
started_at [] n u = refl
started_at (x ∷ xs) n zero = refl
started_at (x ∷ xs) n (suc u) = started_at xs n u

pub started_one : (xs : List Thread) (n u : ℕ) (x : Thread) → slice_get xs u ≡ Some x → is_tied x n ≡ true → slice_get (all_started xs n) u ≡ Some (record x { mode = Running })
started_one xs n u x e t = started_at xs n u ∙ ap (λ o. option_map (λ (y : Thread). started_by y (is_tied y n)) o) e ∙ ap (λ b. Some (started_by x b)) t

pub started_other : (xs : List Thread) (n u : ℕ) (x : Thread) → slice_get xs u ≡ Some x → is_tied x n ≡ false → slice_get (all_started xs n) u ≡ Some x
started_other xs n u x e t = started_at xs n u ∙ ap (λ o. option_map (λ (y : Thread). started_by y (is_tied y n)) o) e ∙ ap (λ b. Some (started_by x b)) t

pub started_length : (xs : List Thread) (n : ℕ) → length (all_started xs n) ≡ length xs
started_length [] n = refl
started_length (x ∷ xs) n = ap suc (started_length xs n)

-- what a join leaves
pub joined_at : (xs : List Thread) (n u : ℕ) → slice_get (all_joined xs n) u ≡ option_map (λ (x : Thread). joined_by x (is_tied x n)) (slice_get xs u)
joined_at [] n u = refl
joined_at (x ∷ xs) n zero = refl
joined_at (x ∷ xs) n (suc u) = joined_at xs n u

pub joined_one : (xs : List Thread) (n u : ℕ) (x : Thread) → slice_get xs u ≡ Some x → is_tied x n ≡ true → slice_get (all_joined xs n) u ≡ Some (record x { mode = Unused; tie = None })
joined_one xs n u x e t = joined_at xs n u ∙ ap (λ o. option_map (λ (y : Thread). joined_by y (is_tied y n)) o) e ∙ ap (λ b. Some (joined_by x b)) t

pub joined_other : (xs : List Thread) (n u : ℕ) (x : Thread) → slice_get xs u ≡ Some x → is_tied x n ≡ false → slice_get (all_joined xs n) u ≡ Some x
joined_other xs n u x e t = joined_at xs n u ∙ ap (λ o. option_map (λ (y : Thread). joined_by y (is_tied y n)) o) e ∙ ap (λ b. Some (joined_by x b)) t

pub joined_length : (xs : List Thread) (n : ℕ) → length (all_joined xs n) ≡ length xs
joined_length [] n = refl
joined_length (x ∷ xs) n = ap suc (joined_length xs n)

-- behind a join none is tied
none_by : (b : Bool) (x : Thread) (n : ℕ) → is_tied x n ≡ b → is_tied (joined_by x b) n ≡ false
none_by true x n e = refl
none_by false x n e = e

or_false : (a b : Bool) → a ≡ false → b ≡ false → (a || b) ≡ false
or_false a b e f = ap (λ x. x || b) e ∙ f

pub none_tied : (xs : List Thread) (n : ℕ) → some_tied (all_joined xs n) n ≡ false
none_tied [] n = refl
none_tied (x ∷ xs) n = or_false (is_tied (joined_by x (is_tied x n)) n) (some_tied (all_joined xs n) n) (none_by (is_tied x n) x n refl) (none_tied xs n)

-- none is tied where each one is not
pub untied_all : (xs : List Thread) (n : ℕ) → ((u : ℕ) (x : Thread) → slice_get xs u ≡ Some x → is_tied x n ≡ false) → some_tied xs n ≡ false
untied_all [] n h = refl
untied_all (x ∷ xs) n h = or_false (is_tied x n) (some_tied xs n) (h 0 x refl) (untied_all xs n (λ u. h (suc u)))
