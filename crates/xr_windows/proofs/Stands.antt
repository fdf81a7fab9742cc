-- Where the cores stand within eight ticks, each by itself.
use Rattle.std.proofs.Common.{◌≡◌, ◌≤◌, ◌<◌, ◌+◌, ℕ, zero, suc, ◌++◌, Some, refl, sym, ap, subst, ◌∙◌, inl, inr, arith, append_assoc}
use Rattle.std.specs.Prelude.{◌⊎◌, ◌≢◌, slice_get, slice_set}
use Rattle.xs_instr.specs.declared.image.Image.{Image}
use Rattle.xs_instr.specs.declared.image.Stim.{Stim}
use Rattle.xs_instr.specs.Machine.{Machine, home_of, link_of, on_links}
use Rattle.xs_fabric.specs.Lockstep.{due_from, due_of, late_from, late_of, part_at, put_part, round_at, round_there, core_round, tick_once}
use Rattle.xr_windows.specs.Alone.{Alone, AllAfter, after_round, due_in, own_part, sent_for}
use Rattle.xr_windows.proofs.Due.{due_behind, late_behind, sent_for-append, sent_later}
use Rattle.xs_core.proofs.Lists.{get_set, get_set_other}
use Rattle.xr_windows.proofs.Shifts.{square_late, late_here, late_elsewhere, square_on, on_own, on_other}
use Rattle.xs_fabric.proofs.Ways.{Square}
use Rattle.xs_core.proofs.Weights.{same_num}

-- each core stands as by itself; on each link is what was coming, and then what its sender sent since
pub record Stands (m : Machine) (loc : ℕ → Alone) : Type 0 where
  pub square : Square m.links
  pub cores : (i : ℕ) → i < 4 → slice_get m.cores i ≡ Some (loc i).core
  pub links : (a i : ℕ) → a < 4 → i < 4 → link_of m.links a i ≡ (loc i).coming a ++ sent_for i (loc a).sent

module _ (L : Image) (s : Stim) (t : ℕ) (m : Machine) (loc : ℕ → Alone) (st : Stands m loc) (later : (a : ℕ) → a < 4 → AllAfter t (loc a).sent) (c : ℕ) (lc : c < 4) (soon : (tick_once (loc c).core).clock < t + 9) where
  pub due_same : (n : ℕ) → n ≤ 4 → due_from m.links c (tick_once (loc c).core).clock n ≡ due_in (loc c).coming (tick_once (loc c).core).clock n
  due_same zero le = refl
  due_same (suc n) le =
      ap (λ xs. due_from m.links c (tick_once (loc c).core).clock n ++ due_of (tick_once (loc c).core).clock xs) (st.links n c (omega arith) lc)
      ∙ ap (λ xs. due_from m.links c (tick_once (loc c).core).clock n ++ xs) (due_behind t (tick_once (loc c).core).clock ((loc c).coming n) (sent_for c (loc n).sent) (sent_later t c (loc n).sent (later n (omega arith))) soon)
      ∙ ap (λ xs. xs ++ due_of (tick_once (loc c).core).clock ((loc c).coming n)) (due_same n (omega arith))

  -- core c's part of the round is its own
  pub part_own : part_at (home_of L s c) m c (tick_once (loc c).core) ≡ own_part (home_of L s c) (loc c)
  unfolding part_at
  part_own = ap (core_round (home_of L s c) (tick_once (loc c).core)) (due_same 4 (omega arith))

  pub round_own : round_at L s m c ≡ put_part m c (tick_once (loc c).core).clock (own_part (home_of L s c) (loc c))
  unfolding round_at
  round_own =
      ap (round_there (home_of L s c) m c) (st.cores c lc)
      ∙ ap (put_part m c (tick_once (loc c).core).clock) part_own

  module _ (loc' : ℕ → Alone) (others : (i : ℕ) → c ≢ i → loc' i ≡ loc i) (own : loc' c ≡ after_round (loc c) (tick_once (loc c).core).clock (own_part (home_of L s c) (loc c))) where
    -- the links after what was due came
    late_is : (a i : ℕ) → a < 4 → i < 4 → (c ≡ i) ⊎ (c ≢ i) → link_of (late_from m.links c (tick_once (loc c).core).clock 4) a i ≡ (loc' i).coming a ++ sent_for i (loc a).sent
    late_is a i la li (inr ne) =
        late_elsewhere m.links c (tick_once (loc c).core).clock 4 a i ne ∙ st.links a i la li ∙ ap (λ (x : Alone). x.coming a ++ sent_for i (loc a).sent) (sym (others i ne))
    late_is a i la li (inl e) =
        let here : link_of (late_from m.links c (tick_once (loc c).core).clock 4) a c ≡ (loc' c).coming a ++ sent_for c (loc a).sent =
        late_here m.links c (tick_once (loc c).core).clock 4 a st.square lc (omega arith) la
        ∙ ap (late_of (tick_once (loc c).core).clock) (st.links a c la lc)
        ∙ late_behind t (tick_once (loc c).core).clock ((loc c).coming a) (sent_for c (loc a).sent) (sent_later t c (loc a).sent (later a la)) soon
        ∙ ap (λ (x : Alone). x.coming a ++ sent_for c (loc a).sent) (sym own) in
        subst (λ v. link_of (late_from m.links c (tick_once (loc c).core).clock 4) a v ≡ (loc' v).coming a ++ sent_for v (loc a).sent) e here

    links_are : (a i : ℕ) → a < 4 → i < 4 → (c ≡ a) ⊎ (c ≢ a) → link_of (on_links (late_from m.links c (tick_once (loc c).core).clock 4) c (own_part (home_of L s c) (loc c)).sent) a i ≡ (loc' i).coming a ++ sent_for i (loc' a).sent
    links_are a i la li (inr ne) =
        on_other (late_from m.links c (tick_once (loc c).core).clock 4) c a i (own_part (home_of L s c) (loc c)).sent ne
        ∙ late_is a i la li (same_num c i)
        ∙ ap (λ (x : Alone). (loc' i).coming a ++ sent_for i x.sent) (sym (others a ne))
    links_are a i la li (inl e) =
        let p = own_part (home_of L s c) (loc c) in
        let here : link_of (on_links (late_from m.links c (tick_once (loc c).core).clock 4) c p.sent) c i ≡ (loc' i).coming c ++ sent_for i (loc' c).sent =
        on_own (late_from m.links c (tick_once (loc c).core).clock 4) c i p.sent (square_late m.links c (tick_once (loc c).core).clock 4 st.square) lc li
        ∙ ap (λ xs. xs ++ sent_for i p.sent) (late_is c i lc li (same_num c i))
        ∙ append_assoc ((loc' i).coming c) (sent_for i (loc c).sent) (sent_for i p.sent)
        ∙ ap (λ xs. (loc' i).coming c ++ xs) (sym (sent_for-append i (loc c).sent p.sent))
        ∙ ap (λ (x : Alone). (loc' i).coming c ++ sent_for i x.sent) (sym own) in
        subst (λ v. link_of (on_links (late_from m.links c (tick_once (loc c).core).clock 4) c p.sent) v i ≡ (loc' i).coming v ++ sent_for i (loc' v).sent) e here

    cores_are : (i : ℕ) → i < 4 → (c ≡ i) ⊎ (c ≢ i) → slice_get (slice_set m.cores c (own_part (home_of L s c) (loc c)).core) i ≡ Some (loc' i).core
    cores_are i li (inr ne) = get_set_other m.cores c i _ ne ∙ st.cores i li ∙ ap (λ (x : Alone). Some x.core) (sym (others i ne))
    cores_are i li (inl e) =
        subst (λ v. slice_get (slice_set m.cores c (own_part (home_of L s c) (loc c)).core) v ≡ Some (loc' v).core) e
        (get_set m.cores c (loc c).core _ (st.cores c lc) ∙ ap (λ (x : Alone). Some x.core) (sym own))

    -- after core c's part of a round they stand so again
    pub turn_stands : Stands (round_at L s m c) loc'
    turn_stands = subst (λ (k : Machine). Stands k loc') (sym round_own) (record {
      square = square_on (late_from m.links c (tick_once (loc c).core).clock 4) c (own_part (home_of L s c) (loc c)).sent (square_late m.links c (tick_once (loc c).core).clock 4 st.square);
      cores = λ i li. cores_are i li (same_num c i);
      links = λ a i la li. links_are a i la li (same_num c a);
    })

-- only the four cores count
pub stands_same : (m : Machine) (loc loc' : ℕ → Alone) → ((i : ℕ) → i < 4 → loc i ≡ loc' i) → Stands m loc → Stands m loc'
stands_same m loc loc' same st = record {
  square = st.square;
  cores = λ i li. st.cores i li ∙ ap (λ (x : Alone). Some x.core) (same i li);
  links = λ a i la li. st.links a i la li ∙ (λ j. (same i li j).coming a ++ sent_for i (same a la j).sent);
}
