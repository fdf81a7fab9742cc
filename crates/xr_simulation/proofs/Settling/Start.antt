-- At the start all threads are at rest; core after core they settle.
use Rattle.std.proofs.Common.{◌≡◌, ◌≢◌, ℕ, zero, suc, ◌<◌, ◌≤◌, Option, Some, refl, sym, ◌∙◌, ⊎_elim, arith, eq-eqb, lt-ltb, ltb-true}
use Rattle.std.specs.Prelude.{Bool, true, ◌&&◌, ◌||◌, nat_eq, nat_lt, slice_get}
use Rattle.std.proofs.lemmas.Bool.{and_from, and_parts, cases_eq, eqb-true, or_cases, or_left, or_right}
use Rattle.xs_instr.specs.declared.state.CoreState.{CoreState}
use Rattle.xl_par.specs.Acquired.{Acquired}
use Rattle.xr_match.specs.Lives.{Watched}
use Rattle.xr_match.specs.Meanings.{of_kernel}
use Rattle.xr_match.specs.Sources.{Counted}
use Rattle.xr_simulation.specs.Images.{IsImageOf}
use Rattle.xr_simulation.specs.Roles.{Roles, unused, used_by}
use Rattle.xr_simulation.specs.Runners.{Setting, Runner}
use Rattle.xr_simulation.specs.MatchStates.{MatchStates, none_rests}
use Rattle.xr_simulation.proofs.Settling.All.{settles_after, nothing_settles, standing_as, thread_settles}
use Rattle.xr_simulation.proofs.Channels.NoneInside.{Settles}
use Rattle.xr_simulation.proofs.Relation.Lasting.{core_at, told_by}

module _ (g : Setting) (first : Roles) (is : IsImageOf g first) (w : Watched) where
  -- those of the cores below one may be at rest, and of that core those below a thread
  abbrev rests_before : (c n i u : ℕ) → Bool
  rests_before c n i u = nat_lt i c || (nat_eq i c && nat_lt u n)

  before_others : (c n i u : ℕ) → ((i ≡ c) × (u ≡ n) → ⊥) → rests_before c (suc n) i u ≡ true → rests_before c n i u ≡ true
  before_others c n i u ne may =
      ⊎_elim
      (λ (below : nat_lt i c ≡ true). or_left (nat_lt i c) (nat_eq i c && nat_lt u n) below)
      (λ (on : (nat_eq i c && nat_lt u (suc n)) ≡ true).
      let parts = and_parts (nat_eq i c) (nat_lt u (suc n)) on in
      let here = eqb-true i c parts.0 in
      let lt = ltb-true u (suc n) parts.1 in
      ⊎_elim
      (λ (e : u ≡ n). absurd (ne (here, e)))
      (λ (other : u ≢ n). or_right (nat_lt i c) (nat_eq i c && nat_lt u n) (and_from (nat_eq i c) (nat_lt u n) parts.0 (lt-ltb u n (less lt other))))
      (cases_eq u n))
      (or_cases (nat_lt i c) (nat_eq i c && nat_lt u (suc n)) may)
    where
      less : u < suc n → u ≢ n → u < n
      less lt other = omega (arith, lt, other)

  -- those of one core
  settle_threads : (c : ℕ) (a : CoreState) → slice_get w.machine.cores c ≡ Some a → ((who : Roles) (x : Counted (of_kernel g.program)) → MatchStates g (rests_before c 0) who w x → Settles g none_rests who w x w) →
      (n : ℕ) (who : Roles) (x : Counted (of_kernel g.program)) → MatchStates g (rests_before c n) who w x → Settles g none_rests who w x w
  settle_threads c a at_c next zero who x st = next who x st
  settle_threads c a at_c next (suc n) who x st =
      let q = thread_settles g first is w (rests_before c (suc n)) (rests_before c n) c n a at_c (before_others c n) who x st (who c n) refl in
      settles_after g first is w (rests_before c n) none_rests who x q (settle_threads c a at_c next n q.follows.who (told_by g.program g.stimulus x q.follows.piece q.follows.world) q.follows.standing)

  none_before : (i u : ℕ) → rests_before 0 0 i u ≡ true → ⊥
  none_before i u may =
      ⊎_elim
      (λ (below : nat_lt i 0 ≡ true). let lt = ltb-true i 0 below in let z : ⊥ = omega (arith, lt) in z)
      (λ (on : (nat_eq i 0 && nat_lt u 0) ≡ true). let lt = ltb-true u 0 (and_parts (nat_eq i 0) (nat_lt u 0) on).1 in let z : ⊥ = omega (arith, lt) in z)
      (or_cases (nat_lt i 0) (nat_eq i 0 && nat_lt u 0) may)

  -- a core has eight threads
  all_of_core : (c i u : ℕ) → u < 8 → i < suc c → rests_before c 8 i u ≡ true
  all_of_core c i u few lt =
      ⊎_elim
      (λ (here : i ≡ c). or_right (nat_lt i c) (nat_eq i c && nat_lt u 8) (and_from (nat_eq i c) (nat_lt u 8) (eq-eqb i c here) (lt-ltb u 8 few)))
      (λ (ne : i ≢ c). or_left (nat_lt i c) (nat_eq i c && nat_lt u 8) (lt-ltb i c (let z : i < c = omega (arith, lt, ne) in z)))
      (cases_eq i c)

  used_so : (s : Runner) (hand : Option Acquired) → used_by s hand ≡ unused → ⊥
  used_so s hand e = cc

  -- those of the first cores
  settle_cores : (c : ℕ) → c ≤ 4 → (who : Roles) (x : Counted (of_kernel g.program)) → MatchStates g (rests_before c 0) who w x → Settles g none_rests who w x w
  settle_cores zero le who x st =
      nothing_settles g first is w none_rests who x (standing_as g first is w (rests_before 0 0) none_rests who x st x.actions (λ f. omega arith) (λ i u s hand runs_s may. absurd (none_before i u may)))
  settle_cores (suc c) le who x st =
      let at = core_at w.machine.cores c (let four = st.cores in omega (arith, le, four)) in
      settle_threads c at.0 at.1 (settle_cores c (omega (arith, le))) 8 who x
      (standing_as g first is w (rests_before (suc c) 0) (rests_before c 8) who x st x.actions (λ f. omega arith) (λ i u s hand runs_s may.
      all_of_core c i u (st.roles.few i u (λ e. used_so s hand (sym runs_s ∙ e)))
      (⊎_elim
      (λ (below : nat_lt i (suc c) ≡ true). ltb-true i (suc c) below)
      (λ (on : (nat_eq i (suc c) && nat_lt u 0) ≡ true). let lt = ltb-true u 0 (and_parts (nat_eq i (suc c)) (nat_lt u 0) on).1 in absurd (let z : ⊥ = omega (arith, lt) in z))
      (or_cases (nat_lt i (suc c)) (nat_eq i (suc c) && nat_lt u 0) may))))

  -- wherever threads may be at rest, the program leads to where nobody is
  pub settles_everywhere : (may_rest : (core thread : ℕ) → Bool) (who : Roles) (x : Counted (of_kernel g.program)) → MatchStates g may_rest who w x → Settles g none_rests who w x w
  settles_everywhere may_rest who x st =
      settle_cores 4 (omega arith) who x
      (standing_as g first is w may_rest (rests_before 4 0) who x st x.actions (λ f. omega arith) (λ i u s hand runs_s may.
      or_left (nat_lt i 4) (nat_eq i 4 && nat_lt u 0) (lt-ltb i 4 (st.roles.there i u s hand runs_s))))
