-- Threads and synchronisers of a core: which one is got, and who waits.
use Rattle.std.proofs.Common.{◌≡◌, ℕ, zero, suc, ◌+◌, ◌<◌, ◌≤◌, Bool, true, false, List, [], ◌∷◌, Some, length, refl, ap, ◌∙◌, arith}
use Rattle.std.specs.Prelude.{slice_get, not, ◌&&◌, ◌||◌}
use Rattle.xs_instr.specs.declared.state.Mode.{Mode}
use Rattle.xs_instr.specs.declared.state.Mode.TheVariants.{Unused, Waiting, Running, Trapped}
use Rattle.xs_instr.specs.declared.state.Thread.{Thread}
use Rattle.xs_instr.specs.Pool.{all_wait, first_free, is_tied, is_unused, is_waiting, threads_taken}
use Rattle.xl_par.specs.Acquired.{one_if, unused_in}

-- where one is free, there is a first free one
pub record FirstFree (taken : List Bool) (from : ℕ) : Type 0 where
  pub place : ℕ
  pub first : first_free taken from ≡ Some (from + place)
  pub free : slice_get taken place ≡ Some false
  pub few : place < length taken

pub free_one : (taken : List Bool) (from k : ℕ) → slice_get taken k ≡ Some false → FirstFree taken from
free_one [] from k h = cc
free_one (false ∷ taken) from k h = record { place = 0; first = (let e : from ≡ from + 0 = omega arith in ap Some e); free = refl; few = omega arith }
free_one (true ∷ taken) from zero h = cc
free_one (true ∷ taken) from (suc k) h =
    let on = free_one taken (suc from) k h in
    record {
      place = suc on.place;
      first = on.first ∙ (let e : suc from + on.place ≡ from + suc on.place = omega arith in ap Some e);
      free = on.free;
      few = omega (arith, on.few);
    }

pub threads_length : (xs : List Thread) → length (threads_taken xs) ≡ length xs
threads_length [] = refl
threads_length (x ∷ xs) = ap suc (threads_length xs)

-- where threads are unused, a place is free
further_free : (x : Thread) (xs : List Thread) → is_unused x.mode ≡ false → 1 ≤ unused_in (x ∷ xs) → (1 ≤ unused_in xs → (k : ℕ) × (slice_get (threads_taken xs) k ≡ Some false)) → (k : ℕ) × (slice_get (threads_taken (x ∷ xs)) k ≡ Some false)
further_free x xs f h on =
    let none : one_if (is_unused x.mode) ≡ 0 = ap one_if f in
    let rest = on (omega (arith, h, none)) in
    (suc rest.0, rest.1)

free_by : (x : Thread) (xs : List Thread) (b : Bool) → is_unused x.mode ≡ b → 1 ≤ unused_in (x ∷ xs) → (1 ≤ unused_in xs → (k : ℕ) × (slice_get (threads_taken xs) k ≡ Some false)) → (k : ℕ) × (slice_get (threads_taken (x ∷ xs)) k ≡ Some false)
free_by x xs true f h on = (0, ap (λ b. Some (not b)) f)
free_by x xs false f h on = further_free x xs f h on

pub some_free : (xs : List Thread) → 1 ≤ unused_in xs → (k : ℕ) × (slice_get (threads_taken xs) k ≡ Some false)
some_free [] h = absurd (omega (arith, h))
some_free (x ∷ xs) h = free_by x xs (is_unused x.mode) refl h (some_free xs)

unused_is : (m : Mode) → not (is_unused m) ≡ false → m ≡ Unused
unused_is Unused h = refl
unused_is Waiting h = cc
unused_is Running h = cc
unused_is Trapped h = cc

-- a free place is an unused thread's
pub free_thread : (xs : List Thread) (u : ℕ) → slice_get (threads_taken xs) u ≡ Some false → (x : Thread) × (slice_get xs u ≡ Some x) × (x.mode ≡ Unused)
free_thread [] u h = cc
free_thread (x ∷ xs) zero h = let e : not (is_unused x.mode) ≡ false = cc in (x, refl, unused_is x.mode e)
free_thread (x ∷ xs) (suc u) h = free_thread xs u h

-- each thread that is tied waits
pub record TiedWait (xs : List Thread) (n : ℕ) : Type 0 where
  pub wait : (u : ℕ) (x : Thread) → slice_get xs u ≡ Some x → is_tied x n ≡ true → x.mode ≡ Waiting

wait_by : (b : Bool) (m : Mode) (rest : Bool) → (b ≡ true → m ≡ Waiting) → rest ≡ true → ((not b || is_waiting m) && rest) ≡ true
wait_by false m rest h e = e
wait_by true m rest h e = ap (λ k. is_waiting k && rest) (h refl) ∙ e

pub all_waiting : (xs : List Thread) (n : ℕ) → TiedWait xs n → all_wait xs n ≡ true
all_waiting [] n h = refl
all_waiting (x ∷ xs) n h = wait_by (is_tied x n) x.mode (all_wait xs n) (h.wait 0 x refl) (all_waiting xs n (record { wait = λ u y. h.wait (suc u) y }))
