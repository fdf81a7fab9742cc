-- The trace of the rounds is the records of the four cores, by tick, core and order.
use Rattle.std.proofs.Common.{◌≡◌, ◌≤◌, ◌<◌, ◌+◌, ℕ, zero, suc, Bool, true, false, List, [], ◌∷◌, ◌++◌, length, refl, sym, ap, ◌∙◌, inl, inr, arith, append_assoc}
use Rattle.std.specs.Prelude.{◌⊎◌, ◌≢◌, nat_eq}
use Rattle.std.proofs.lemmas.Bool.{eq-eqb, ne_eqb}
use Rattle.xs_instr.specs.declared.image.Image.{Image}
use Rattle.xs_instr.specs.declared.image.Stim.{Stim}
use Rattle.xs_instr.specs.declared.trace.Record.{Record}
use Rattle.xs_instr.specs.Machine.{home_of, parts_in}
use Rattle.xs_fabric.specs.Lockstep.{lockstep, part_at, round_at, round_there, rounds_at, tick_once}
use Rattle.xr_windows.specs.Alone.{stamped}
use Rattle.xr_windows.specs.declared.stamped.Stamped.{Stamped}
use Rattle.xr_windows.specs.Merge.{at_by, at_tick, rounds_of}
use Rattle.xr_windows.specs.Windows.{core_where, made_between, part, part_after, window_start, windows_of}
use Rattle.xs_fabric.proofs.Clocks.{four_cores, lockstep_four}
use Rattle.xs_core.proofs.Lists.{append_nothing}
use Rattle.xs_core.proofs.Weights.{get_there, same_num}

at_by-append : (r : Record) (xs ys : List Record) (b : Bool) → at_by r (xs ++ ys) b ≡ at_by r xs b ++ ys
at_by-append r xs ys true = refl
at_by-append r xs ys false = refl

at_append : (t : ℕ) (xs ys : List Stamped) → at_tick t (xs ++ ys) ≡ at_tick t xs ++ at_tick t ys
at_append t [] ys = refl
at_append t (x ∷ xs) ys = ap (λ r. at_by x.made r (nat_eq x.tick t)) (at_append t xs ys) ∙ at_by-append x.made (at_tick t xs) (at_tick t ys) (nat_eq x.tick t)

at_stamped : (t u : ℕ) (rs : List Record) → u ≡ t → at_tick t (stamped u rs) ≡ rs
at_stamped t u [] e = refl
at_stamped t u (r ∷ rs) e = ap (at_by r (at_tick t (stamped u rs))) (eq-eqb u t e) ∙ ap (λ xs. r ∷ xs) (at_stamped t u rs e)

at_others : (t u : ℕ) (rs : List Record) → u ≢ t → at_tick t (stamped u rs) ≡ []
at_others t u [] ne = refl
at_others t u (r ∷ rs) ne = ap (at_by r (at_tick t (stamped u rs))) (ne_eqb u t ne) ∙ at_others t u rs ne

module _ (L : Image) (s : Stim) where
  -- what core i wrote down in the round after n rounds
  abbrev pub made_at : ℕ → ℕ → List Record
  made_at n i = (part_after L s n i).made

  none_yet : (i n m : ℕ) → m ≤ n → at_tick (suc n) (made_between L s i 0 m) ≡ []
  unfolding made_between
  none_yet i n zero le = refl
  none_yet i n (suc m) le =
      at_append (suc n) (made_between L s i 0 m) (stamped (0 + m + 1) (made_at (0 + m) i))
      ∙ ap (λ xs. xs ++ at_tick (suc n) (stamped (0 + m + 1) (made_at (0 + m) i))) (none_yet i n m (omega arith))
      ∙ at_others (suc n) (0 + m + 1) (made_at (0 + m) i) (λ e. absurd (omega arith))

  -- the records of a tick are those of its round
  pub at_round : (i n m : ℕ) → n < m → at_tick (suc n) (made_between L s i 0 m) ≡ made_at n i
  unfolding made_between
  at_round i n zero lt = absurd (omega arith)
  at_round i n (suc m) lt = at_append (suc n) (made_between L s i 0 m) (stamped (0 + m + 1) (made_at (0 + m) i)) ∙ go (λ g. at_round i n m g) (same_num n m)
    where
      go : (n < m → at_tick (suc n) (made_between L s i 0 m) ≡ made_at n i) → (n ≡ m) ⊎ (n ≢ m) → at_tick (suc n) (made_between L s i 0 m) ++ at_tick (suc n) (stamped (0 + m + 1) (made_at (0 + m) i)) ≡ made_at n i
      go more (inl e) =
          let z : 0 + m ≡ n = omega arith in
          ap (λ xs. xs ++ at_tick (suc n) (stamped (0 + m + 1) (made_at (0 + m) i))) (none_yet i n m (omega arith))
          ∙ at_stamped (suc n) (0 + m + 1) (made_at (0 + m) i) (omega arith)
          ∙ ap (λ k. made_at k i) z
      go more (inr ne) =
          ap (λ xs. xs ++ at_tick (suc n) (stamped (0 + m + 1) (made_at (0 + m) i))) (more (omega arith))
          ∙ ap (λ xs. made_at n i ++ xs) (at_others (suc n) (0 + m + 1) (made_at (0 + m) i) (λ e. absurd (omega arith)))
          ∙ append_nothing (made_at n i)

  -- a core's part of a round adds its records to the trace
  turn_trace : (n c : ℕ) → c < 4 → (round_at L s (rounds_at L s (lockstep L s n) c) c).trace ≡ (rounds_at L s (lockstep L s n) c).trace ++ made_at n c
  unfolding round_at part_after
  turn_trace n c lc =
      let m = rounds_at L s (lockstep L s n) c in
      let len : length m.cores ≡ 4 = four_cores L s (lockstep L s n) c ∙ lockstep_four L s n in
      let there = get_there m.cores c (omega arith) in
      ap (λ o. (round_there (home_of L s c) m c o).trace) there.1
      ∙ sym (ap (λ o. m.trace ++ (part_at (home_of L s c) m c (tick_once (core_where (parts_in L.cores c) o))).made) there.1)

  four_more : (r p q x y : List Record) → (((r ++ p) ++ q) ++ x) ++ y ≡ r ++ (((p ++ q) ++ x) ++ y)
  four_more r p q x y = simp append_assoc

  -- a round adds the records of the four cores, by their number
  round_trace : (n : ℕ) → (lockstep L s (suc n)).trace ≡ (lockstep L s n).trace ++ (((made_at n 0 ++ made_at n 1) ++ made_at n 2) ++ made_at n 3)
  unfolding lockstep rounds_at
  round_trace n =
      turn_trace n 3 (omega arith)
      ∙ ap (λ xs. xs ++ made_at n 3) (turn_trace n 2 (omega arith) ∙ ap (λ xs. xs ++ made_at n 2) (turn_trace n 1 (omega arith) ∙ ap (λ xs. xs ++ made_at n 1) (turn_trace n 0 (omega arith))))
      ∙ four_more (lockstep L s n).trace (made_at n 0) (made_at n 1) (made_at n 2) (made_at n 3)

  -- the trace after n rounds of a run of at least n is the records of the first n ticks, by tick, core and order
  pub trace_merged : (n m : ℕ) → n ≤ m → (lockstep L s n).trace ≡ rounds_of (made_between L s 0 0 m) (made_between L s 1 0 m) (made_between L s 2 0 m) (made_between L s 3 0 m) n
  unfolding rounds_of lockstep
  trace_merged zero m le = refl
  trace_merged (suc n) m le =
      let a = at_round 0 n m (omega arith) in
      let b = at_round 1 n m (omega arith) in
      let c = at_round 2 n m (omega arith) in
      let d = at_round 3 n m (omega arith) in
      round_trace n ∙ (λ i. trace_merged n m (omega arith) i ++ (((sym a i ++ sym b i) ++ sym c i) ++ sym d i))

  -- the records that the four parts have in the end make the trace
  pub parts_merged : (n : ℕ) → (lockstep L s n).trace ≡ rounds_of (part L s n 0 (windows_of n)).records (part L s n 1 (windows_of n)).records (part L s n 2 (windows_of n)).records (part L s n 3 (windows_of n)).records n
  unfolding part
  parts_merged n =
      let e : window_start n (windows_of n) ≡ n = omega arith in
      trace_merged n n (omega arith)
      ∙ ap (λ m. rounds_of (made_between L s 0 0 m) (made_between L s 1 0 m) (made_between L s 2 0 m) (made_between L s 3 0 m) n) (sym e)
