-- A core's window depends on its part before and on the batches of the window before alone.
use Rattle.std.proofs.Common.{◌≡◌, ◌≤◌, ◌<◌, ◌+◌, ◌-◌, ◌^◌, ℕ, zero, suc, List, [], ◌∷◌, ◌++◌, Option, Some, None, length, refl, sym, ap, subst, ◌∙◌, arith, append_assoc}
use Rattle.std.specs.Prelude.{slice_get}
use Rattle.xs_instr.specs.declared.image.Image.{Image}
use Rattle.xs_instr.specs.declared.image.Stim.{Stim}
use Rattle.xs_instr.specs.declared.image.Home.{Home}
use Rattle.xs_instr.specs.declared.state.CoreState.{CoreState}
use Rattle.xs_instr.specs.declared.state.Item.{Item}
use Rattle.xs_instr.specs.Machine.{home_of, link_in, link_of, no_links, parts_in}
use Rattle.xs_fabric.specs.Lockstep.{late_of, lockstep, part_at, rounds_at, tick_once}
use Rattle.xr_windows.specs.Alone.{Alone, AllSent, AllUpTo, alone, begins, coming_to, own_part, sent_for, stamped}
use Rattle.xr_windows.specs.Windows.{batch, batches_before, core_after, core_where, four, has_one, made_between, part, part_after, sent_before, sent_between, ticks_in, went_on, window, window_start}
use Rattle.xr_windows.proofs.Due.{before_split, late_old, old_append, old_more, sent_later, sent_old}
use Rattle.xr_windows.proofs.EightTicks.{clock_at, eight_ticks, lockstep_square, loc, loc_after, mix, mix_after, mix_here, soon, within}
use Rattle.xs_core.proofs.Lists.{append_nothing}
use Rattle.xr_windows.proofs.SentTicks.{own_part_such, up_clock}
use Rattle.xr_windows.proofs.Stands.{part_own}

module _ (L : Image) (s : Stim) (t : ℕ) where
  -- a core's part of a round is its own
  pub part_is : (n c : ℕ) → c < 4 → n < 8 → t + n + 1 < 2 ^ 32 → part_after L s (t + n) c ≡ own_part (home_of L s c) (loc L s t n c)
  unfolding part_after
  part_is n c lc eight small =
      let m = rounds_at L s (lockstep L s (t + n)) c in
      let st = within L s t n c (omega arith) eight small (eight_ticks L s t n (omega arith) (omega arith)) in
      ap (λ (o : Option CoreState). part_at (home_of L s c) m c (tick_once (core_where (parts_in L.cores c) o))) (st.cores c lc)
      ∙ part_own L s t m (mix L s t n c) st (λ a la. mix_after L s t n c a la small) c lc (soon L s t n c lc eight small)
      ∙ ap (own_part (home_of L s c)) (mix_here L s t n c)

  pub sent_is : (n c : ℕ) → c < 4 → n ≤ 8 → t + n < 2 ^ 32 → sent_between L s c t n ≡ (loc L s t n c).sent
  unfolding sent_between alone
  sent_is zero c lc le small = refl
  sent_is (suc n) c lc le small =
      let now = part_is n c lc (omega arith) (omega arith) in
      let before = sent_is n c lc (omega arith) (omega arith) in
      (λ i. before i ++ (now i).sent)

  pub made_is : (n c : ℕ) → c < 4 → n ≤ 8 → t + n < 2 ^ 32 → made_between L s c t n ≡ (loc L s t n c).made
  unfolding made_between alone
  made_is zero c lc le small = refl
  made_is (suc n) c lc le small =
      let now = part_is n c lc (omega arith) (omega arith) in
      let before = made_is n c lc (omega arith) (omega arith) in
      let up = up_clock (home_of L s c) (begins (core_after L s c t) (coming_to (lockstep L s t).links c)) t n (clock_at L s t c lc (omega arith)) (omega arith) in
      (λ i. before i ++ stamped (sym up i) (now i).made)

none_in : (i : ℕ) → link_in (Some ([] ∷ [] ∷ [] ∷ [] ∷ [])) i ≡ []
none_in zero = refl
none_in (suc zero) = refl
none_in (suc (suc zero)) = refl
none_in (suc (suc (suc zero))) = refl
none_in (suc (suc (suc (suc i)))) = refl

no_link : (a i : ℕ) → link_of no_links a i ≡ []
no_link zero i = none_in i
no_link (suc zero) i = none_in i
no_link (suc (suc zero)) i = none_in i
no_link (suc (suc (suc zero))) i = none_in i
no_link (suc (suc (suc (suc a)))) i = refl

-- nothing on a link was sent after the round
pub links_old : (L : Image) (s : Stim) (t a i : ℕ) → a < 4 → i < 4 → t < 2 ^ 32 → AllUpTo t (link_of (lockstep L s t).links a i)
unfolding lockstep alone
links_old L s zero a i la li small = subst (AllUpTo 0) (sym (no_link a i)) tt
links_old L s (suc t) a i la li small =
    let e : t + 1 ≡ suc t = omega arith in
    let one = eight_ticks L s t 1 (omega arith) (omega arith) in
    let up = up_clock (home_of L s a) (begins (core_after L s a t) (coming_to (lockstep L s t).links a)) t 0 (clock_at L s t a la (omega arith)) (omega arith) in
    let sent : AllSent (λ x. x.tick ≤ suc t) (own_part (home_of L s a) (loc L s t 0 a)).sent = own_part_such (λ x. x.tick ≤ suc t) (home_of L s a) (loc L s t 0 a) (λ e m far. omega (arith, up)) in
    let old = late_old t (tick_once (loc L s t 0 i).core).clock (link_of (lockstep L s t).links a i) (links_old L s t a i la li (omega arith)) in
    let there = one.links a i la li in
    let all : AllUpTo (suc t) (link_of (lockstep L s (t + 1)).links a i) =
    subst (AllUpTo (suc t)) (sym there) (old_append (suc t) _ _ (old_more t (suc t) _ (omega arith) old) (sent_old (suc t) i _ sent)) in
    subst (λ k. AllUpTo (suc t) (link_of (lockstep L s k).links a i)) e all

get_past : {X : Type 0} (xs : List X) (i : ℕ) → length xs ≤ i → slice_get xs i ≡ None
get_past [] i le = refl
get_past (x ∷ xs) zero le = absurd (omega arith)
get_past (x ∷ xs) (suc i) le = get_past xs i (omega arith)

-- no fifth core sends
far_link : (L : Image) (s : Stim) (t a i : ℕ) → link_of (lockstep L s t).links (suc (suc (suc (suc a)))) i ≡ []
far_link L s t a i =
    let rows = (lockstep_square L s t).rows in
    ap (λ o. link_in o i) (get_past (lockstep L s t).links (suc (suc (suc (suc a)))) (omega arith))

coming_none : (home : Home) (x : Alone) (a n : ℕ) → x.coming a ≡ [] → (alone home x n).coming a ≡ []
unfolding alone
coming_none home x a zero none = none
coming_none home x a (suc n) none = ap (late_of (tick_once (alone home x n).core).clock) (coming_none home x a n none)

loc_old : (L : Image) (s : Stim) (t n a i : ℕ) → a < 4 → i < 4 → t < 2 ^ 32 → AllUpTo t ((loc L s t n i).coming a)
unfolding alone
loc_old L s t zero a i la li small = links_old L s t a i la li small
loc_old L s t (suc n) a i la li small = late_old t (tick_once (loc L s t n i).core).clock ((loc L s t n i).coming a) (loc_old L s t n a i la li small)

made_split : (L : Image) (s : Stim) (i t n : ℕ) → made_between L s i 0 (t + n) ≡ made_between L s i 0 t ++ made_between L s i t n
unfolding made_between
made_split L s i t zero = let e : t + 0 ≡ t = omega arith in ap (made_between L s i 0) e ∙ sym (append_nothing (made_between L s i 0 t))
made_split L s i t (suc n) =
    let e : t + suc n ≡ suc (t + n) = omega arith in
    let z : 0 + (t + n) ≡ t + n = omega arith in
    ap (made_between L s i 0) e
    ∙ ap (λ k. made_between L s i 0 (t + n) ++ stamped (k + 1) (part_after L s k i).made) z
    ∙ ap (λ xs. xs ++ stamped (t + n + 1) (part_after L s (t + n) i).made) (made_split L s i t n)
    ∙ append_assoc (made_between L s i 0 t) (made_between L s i t n) (stamped (t + n + 1) (part_after L s (t + n) i).made)

module _ (L : Image) (s : Stim) (n : ℕ) (small : n < 2 ^ 32) where
  pub start_next : (k : ℕ) → window_start n (suc k) ≡ window_start n k + ticks_in n k
  start_next k = omega arith

  pub few : (k : ℕ) → ticks_in n k ≤ 8
  few k = omega arith

  pub within_run : (k : ℕ) → window_start n k + ticks_in n k < 2 ^ 32
  within_run k = omega arith

  -- what is on a link when a window has ended
  pub link_then : (a i k : ℕ) → a < 4 → i < 4 → link_of (lockstep L s (window_start n (suc k))).links a i ≡ (loc L s (window_start n k) (ticks_in n k) i).coming a ++ sent_for i (loc L s (window_start n k) (ticks_in n k) a).sent
  link_then a i k la li =
      ap (λ t. link_of (lockstep L s t).links a i) (start_next k)
      ∙ (eight_ticks L s (window_start n k) (ticks_in n k) (few k) (within_run k)).links a i la li

  -- what waits then is what came before and wasn't due
  pub waiting_is : (a i k : ℕ) → a < 4 → i < 4 → (part L s n i (suc k)).waiting a ≡ (loc L s (window_start n k) (ticks_in n k) i).coming a
  unfolding part
  waiting_is a i k la li =
      let e : suc k - 1 ≡ k = omega arith in
      ap (λ j. sent_before (window_start n j) (link_of (lockstep L s (window_start n (suc k))).links a i)) e
      ∙ ap (sent_before (window_start n k)) (link_then a i k la li)
      ∙ before_split (window_start n k) ((loc L s (window_start n k) (ticks_in n k) i).coming a) (sent_for i (loc L s (window_start n k) (ticks_in n k) a).sent)
      (loc_old L s (window_start n k) (ticks_in n k) a i la li (omega arith))
      (sent_later (window_start n k) i (loc L s (window_start n k) (ticks_in n k) a).sent (loc_after L s (window_start n k) (ticks_in n k) a la (within_run k)))

  pub boot_link : (t a i : ℕ) → t ≡ 0 → link_of (lockstep L s t).links a i ≡ []
  unfolding lockstep
  boot_link t a i e = ap (λ k. link_of (lockstep L s k).links a i) e ∙ no_link a i

  none_yet : (a i : ℕ) → link_of (lockstep L s (window_start n 0)).links a i ≡ (part L s n i 0).waiting a ++ []
  unfolding part
  none_yet a i =
      let e : window_start n 0 ≡ 0 = omega arith in
      let here = boot_link (window_start n 0) a i e in
      here ∙ sym (ap (λ xs. sent_before (window_start n (0 - 1)) xs ++ []) here)

  -- what is coming to a core is what waits and the batches of the window before
  pub coming_split : (a i k : ℕ) → a < 4 → i < 4 → link_of (lockstep L s (window_start n k)).links a i ≡ (part L s n i k).waiting a ++ batches_before L s n i k a
  coming_split a i zero la li = none_yet a i
  coming_split a i (suc k) la li =
      link_then a i k la li
      ∙ ap (λ xs. xs ++ sent_for i (loc L s (window_start n k) (ticks_in n k) a).sent) (sym (waiting_is a i k la li))
      ∙ ap (λ xs. (part L s n i (suc k)).waiting a ++ sent_for i xs) (sym (sent_is L s (window_start n k) (ticks_in n k) a la (few k) (within_run k)))

  pub coming_four : (i k : ℕ) → i < 4 → (a : ℕ) → coming_to (lockstep L s (window_start n k)).links i a ≡ four (λ b. (part L s n i k).waiting b ++ batches_before L s n i k b) a
  coming_four i k li zero = coming_split 0 i k (omega arith) li
  coming_four i k li (suc zero) = coming_split 1 i k (omega arith) li
  coming_four i k li (suc (suc zero)) = coming_split 2 i k (omega arith) li
  coming_four i k li (suc (suc (suc zero))) = coming_split 3 i k (omega arith) li
  coming_four i k li (suc (suc (suc (suc a)))) = far_link L s (window_start n k) a i

  -- the window, told by the part before and the batches alone
  pub window_is : (i k : ℕ) → i < 4 → window (home_of L s i) (part L s n i k) (batches_before L s n i k) (ticks_in n k) ≡ loc L s (window_start n k) (ticks_in n k) i
  unfolding part
  window_is i k li =
      ap (λ (f : ℕ → List Item). alone (home_of L s i) (begins (core_after L s i (window_start n k)) f) (ticks_in n k)) (λ j a. sym (coming_four i k li a) j)

  waiting_far : (i k a : ℕ) → (part L s n i (suc k)).waiting (suc (suc (suc (suc a)))) ≡ (loc L s (window_start n k) (ticks_in n k) i).coming (suc (suc (suc (suc a))))
  unfolding part
  waiting_far i k a =
      ap (sent_before (window_start n (suc k - 1))) (far_link L s (window_start n (suc k)) a i)
      ∙ sym (coming_none (home_of L s i) (begins (core_after L s i (window_start n k)) (coming_to (lockstep L s (window_start n k)).links i)) (suc (suc (suc (suc a)))) (ticks_in n k) (far_link L s (window_start n k) a i))

  waiting_all : (i k : ℕ) → i < 4 → (a : ℕ) → (part L s n i (suc k)).waiting a ≡ (loc L s (window_start n k) (ticks_in n k) i).coming a
  waiting_all i k li zero = waiting_is 0 i k (omega arith) li
  waiting_all i k li (suc zero) = waiting_is 1 i k (omega arith) li
  waiting_all i k li (suc (suc zero)) = waiting_is 2 i k (omega arith) li
  waiting_all i k li (suc (suc (suc zero))) = waiting_is 3 i k (omega arith) li
  waiting_all i k li (suc (suc (suc (suc a)))) = waiting_far i k a

  core_is : (i k : ℕ) → i < 4 → core_after L s i (window_start n (suc k)) ≡ (loc L s (window_start n k) (ticks_in n k) i).core
  core_is i k li =
      ap (core_after L s i) (start_next k)
      ∙ ap (core_where (parts_in L.cores i)) ((eight_ticks L s (window_start n k) (ticks_in n k) (few k) (within_run k)).cores i li)

  -- THE CENTRAL FACT: the next part is the window of the part before and of the batches of the window before
  pub part_next : (i k : ℕ) → i < 4 → part L s n i (suc k) ≡ went_on (part L s n i k) (window (home_of L s i) (part L s n i k) (batches_before L s n i k) (ticks_in n k))
  unfolding part
  part_next i k li =
      (λ j. record {
        core = core_is i k li j;
        records = (ap (made_between L s i 0) (start_next k) ∙ made_split L s i (window_start n k) (ticks_in n k) ∙ ap (λ xs. made_between L s i 0 (window_start n k) ++ xs) (made_is L s (window_start n k) (ticks_in n k) i li (few k) (within_run k))) j;
        waiting = λ a. waiting_all i k li a j;
        has_sent = has_one (sent_is L s (window_start n k) (ticks_in n k) i li (few k) (within_run k) j);
      })
      ∙ sym (ap (went_on (part L s n i k)) (window_is i k li))

  -- and so are the batches that go out in it
  pub batch_next : (i j k : ℕ) → i < 4 → batch L s n i j k ≡ sent_for j (window (home_of L s i) (part L s n i k) (batches_before L s n i k) (ticks_in n k)).sent
  batch_next i j k li =
      let e : k + 1 ≡ suc k = omega arith in
      ap (sent_for j) (sent_is L s (window_start n k) (ticks_in n k) i li (few k) (within_run k))
      ∙ sym (ap (λ (w : Alone). sent_for j w.sent) (window_is i k li))
