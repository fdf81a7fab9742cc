-- Within eight ticks each core goes as by itself.
use Rattle.std.proofs.Common.{◌≡◌, ◌≤◌, ◌<◌, ◌+◌, ◌^◌, ℕ, zero, suc, Bool, true, false, List, Option, Some, None, length, refl, sym, ap, subst, ◌∙◌, arith}
use Rattle.std.specs.Prelude.{◌≢◌, nat_lt, slice_get}
use Rattle.std.proofs.lemmas.Bool.{ltb-true, ltb-false, lt-ltb, le-ltb}
use Rattle.xs_instr.specs.declared.image.Image.{Image}
use Rattle.xs_instr.specs.declared.image.Stim.{Stim}
use Rattle.xs_instr.specs.declared.state.CoreState.{CoreState}
use Rattle.xs_instr.specs.declared.state.Item.{Item}
use Rattle.xs_instr.specs.Machine.{Machine, home_of, link_of, no_links, parts_in}
use Rattle.xs_fabric.specs.Lockstep.{late_from, lockstep, part_at, round_at, round_there, rounds_at, tick_once}
use Rattle.xr_windows.specs.Alone.{Alone, AllAfter, after_round, alone, begins, coming_to, own_part}
use Rattle.xr_windows.specs.Windows.{core_after, core_where, alone_from}
use Rattle.xs_fabric.proofs.Clocks.{lockstep_clock, lockstep_four}
use Rattle.xs_core.proofs.Lists.{append_nothing}
use Rattle.xr_windows.proofs.SentTicks.{alone_after, up_clock}
use Rattle.xr_windows.proofs.Shifts.{square_late, square_on}
use Rattle.xr_windows.proofs.Stands.{Stands, stands_same, turn_stands}
use Rattle.xs_fabric.proofs.Ways.{Square}
use Rattle.xs_core.proofs.Weights.{get_there}

some_is : {X : Type 0} (x y : X) → Some x ≡ Some y → x ≡ y
some_is x y h = cc

no_square : Square no_links
no_square = record {
  rows = refl;
  columns = λ a out h. row a out h;
}
  where
    row : (a : ℕ) (out : List (List Item)) → slice_get no_links a ≡ Some out → length out ≡ 4
    row zero out h = ap length (sym (some_is _ out h))
    row (suc zero) out h = ap length (sym (some_is _ out h))
    row (suc (suc zero)) out h = ap length (sym (some_is _ out h))
    row (suc (suc (suc zero))) out h = ap length (sym (some_is _ out h))
    row (suc (suc (suc (suc a)))) out h = cc

round_square : (L : Image) (s : Stim) (m : Machine) (c : ℕ) → Square m.links → Square (round_at L s m c).links
unfolding round_at
round_square L s m c q = go (slice_get m.cores c)
  where
    go : (o : Option CoreState) → Square (round_there (home_of L s c) m c o).links
    go None = q
    go (Some core) = square_on (late_from m.links c (tick_once core).clock 4) c (part_at (home_of L s c) m c (tick_once core)).sent (square_late m.links c (tick_once core).clock 4 q)

rounds_square : (L : Image) (s : Stim) (m : Machine) (n : ℕ) → Square m.links → Square (rounds_at L s m n).links
unfolding rounds_at
rounds_square L s m zero q = q
rounds_square L s m (suc n) q = round_square L s (rounds_at L s m n) n (rounds_square L s m n q)

pub lockstep_square : (L : Image) (s : Stim) (n : ℕ) → Square (lockstep L s n).links
unfolding lockstep
lockstep_square L s zero = no_square
lockstep_square L s (suc n) = rounds_square L s (lockstep L s n) 4 (lockstep_square L s n)

-- the cores are there
pub core_there : (L : Image) (s : Stim) (n i : ℕ) → i < 4 → slice_get (lockstep L s n).cores i ≡ Some (core_after L s i n)
core_there L s n i li =
    let four = lockstep_four L s n in
    let lt : i < length (lockstep L s n).cores = omega arith in
    let there = get_there (lockstep L s n).cores i lt in
    there.1 ∙ sym (ap (λ o. Some (core_where (parts_in L.cores i) o)) there.1)

abbrev pub pick : Alone → Alone → Bool → Alone
pick x y true = x
pick x y false = y

module _ (L : Image) (s : Stim) (t : ℕ) where
  -- core i by itself, after n rounds from t on
  abbrev pub loc : ℕ → ℕ → Alone
  loc n i = alone_from L s t i n

  -- the cores below c have gone one round further
  abbrev pub mix : ℕ → ℕ → ℕ → Alone
  mix n c i = pick (loc (suc n) i) (loc n i) (nat_lt i c)

  pub clock_at : (i : ℕ) → i < 4 → t < 2 ^ 32 → (core_after L s i t).clock ≡ t
  clock_at i li small = lockstep_clock L s t small i (core_after L s i t) (core_there L s t i li)

  pub loc_after : (n i : ℕ) → i < 4 → t + n < 2 ^ 32 → AllAfter t (loc n i).sent
  loc_after n i li small = alone_after (home_of L s i) (core_after L s i t) (coming_to (lockstep L s t).links i) t n (clock_at i li (omega arith)) small

  pub mix_after : (n c i : ℕ) → i < 4 → t + n + 1 < 2 ^ 32 → AllAfter t (mix n c i).sent
  mix_after n c i li small = go (nat_lt i c)
    where
      go : (b : Bool) → AllAfter t (pick (loc (suc n) i) (loc n i) b).sent
      go true = loc_after (suc n) i li (omega arith)
      go false = loc_after n i li (omega arith)

  pub mix_here : (n c : ℕ) → mix n c c ≡ loc n c
  mix_here n c = ap (pick (loc (suc n) c) (loc n c)) (le-ltb c c (omega arith))

  mix_next : (n c : ℕ) → mix n (suc c) c ≡ loc (suc n) c
  mix_next n c = ap (pick (loc (suc n) c) (loc n c)) (lt-ltb c (suc c) (omega arith))

  same_test : (c i : ℕ) → c ≢ i → nat_lt i (suc c) ≡ nat_lt i c
  same_test c i ne = go (nat_lt i c) refl
    where
      go : (b : Bool) → nat_lt i c ≡ b → nat_lt i (suc c) ≡ b
      go true e = let lt = ltb-true i c e in lt-ltb i (suc c) (omega arith)
      go false e = let le = ltb-false i c e in le-ltb i (suc c) (let k : suc c ≤ i = above c i le ne in k)
        where
          above : (c i : ℕ) → c ≤ i → c ≢ i → suc c ≤ i
          above c i le ne = omega arith

  mix_others : (n c i : ℕ) → c ≢ i → mix n (suc c) i ≡ mix n c i
  mix_others n c i ne = ap (pick (loc (suc n) i) (loc n i)) (same_test c i ne)

  mix_none : (n i : ℕ) → mix n 0 i ≡ loc n i
  mix_none n i = ap (pick (loc (suc n) i) (loc n i)) (le-ltb i 0 (omega arith))

  mix_all : (n i : ℕ) → i < 4 → mix n 4 i ≡ loc (suc n) i
  mix_all n i li = ap (pick (loc (suc n) i) (loc n i)) (lt-ltb i 4 li)

  loc_next : (n i : ℕ) → loc (suc n) i ≡ after_round (loc n i) (tick_once (loc n i).core).clock (own_part (home_of L s i) (loc n i))
  unfolding alone
  loc_next n i = refl

  pub soon : (n c : ℕ) → c < 4 → n < 8 → t + n + 1 < 2 ^ 32 → (tick_once (mix n c c).core).clock < t + 9
  soon n c lc eight small =
      let up = up_clock (home_of L s c) (begins (core_after L s c t) (coming_to (lockstep L s t).links c)) t n (clock_at c lc (omega arith)) small in
      subst (λ (x : Alone). (tick_once x.core).clock < t + 9) (sym (mix_here n c)) (omega arith)

  -- within a round
  pub within : (n c : ℕ) → c ≤ 4 → n < 8 → t + n + 1 < 2 ^ 32 → Stands (lockstep L s (t + n)) (loc n) → Stands (rounds_at L s (lockstep L s (t + n)) c) (mix n c)
  unfolding rounds_at
  within n zero le eight small st = stands_same (lockstep L s (t + n)) (loc n) (mix n 0) (λ i li. sym (mix_none n i)) st
  within n (suc c) le eight small st =
      turn_stands L s t (rounds_at L s (lockstep L s (t + n)) c) (mix n c) (within n c (omega arith) eight small st)
      (λ a la. mix_after n c a la small) c (omega arith) (soon n c (omega arith) eight small)
      (mix n (suc c)) (mix_others n c)
      (mix_next n c ∙ loc_next n c ∙ sym (ap (λ (x : Alone). after_round x (tick_once x.core).clock (own_part (home_of L s c) x)) (mix_here n c)))

  pub first : Stands (lockstep L s t) (loc 0)
  unfolding alone
  first = record {
    square = lockstep_square L s t;
    cores = core_there L s t;
    links = λ a i la li. sym (append_nothing (link_of (lockstep L s t).links a i));
  }

  next_round : (n : ℕ) → lockstep L s (t + suc n) ≡ rounds_at L s (lockstep L s (t + n)) 4
  unfolding lockstep
  next_round n = let e : t + suc n ≡ suc (t + n) = omega arith in ap (lockstep L s) e

  -- after n rounds, of at most eight, each core stands as by itself, and behind what was coming to it stands what was sent to it since
  pub eight_ticks : (n : ℕ) → n ≤ 8 → t + n < 2 ^ 32 → Stands (lockstep L s (t + n)) (loc n)
  eight_ticks zero le small = let e : t + 0 ≡ t = omega arith in subst (λ k. Stands (lockstep L s k) (loc 0)) (sym e) first
  eight_ticks (suc n) le small =
      subst (λ m. Stands m (loc (suc n))) (sym (next_round n))
      (stands_same (rounds_at L s (lockstep L s (t + n)) 4) (mix n 4) (loc (suc n)) (mix_all n) (within n 4 (omega arith) (omega arith) (omega arith) (eight_ticks n (omega arith) (omega arith))))
