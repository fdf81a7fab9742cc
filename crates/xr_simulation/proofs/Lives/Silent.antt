-- The names behind a silent step: the thread's hand stays as it is, or it gets a synchroniser, or a thread.
use Rattle.std.proofs.Common.{◌≡◌, ℕ, ◌+◌, ◌≤◌, ◌≢◌, ◌⊎◌, inl, inr, Bool, true, false, List, [], length, Option, Some, None, refl, sym, ap, ◌∙◌, subst, ⊎_elim, arith}
use Rattle.std.specs.Prelude.{slice_get, slice_set, not}
use Rattle.std.proofs.lemmas.Bool.{cases_eq}
use Rattle.std.proofs.lemmas.Option.{none-some, slice_get_within}
use Rattle.xs_instr.specs.declared.state.Thread.{Thread}
use Rattle.xs_instr.specs.Machine.{Machine}
use Rattle.xs_instr.specs.Pool.{first_free, is_unused, threads_taken, tied_to}
use Rattle.xc_meaning.specs.Counts.KernelCounts.{branch_count}
use Rattle.xc_meaning.specs.States.Items.{Item}
use Rattle.xl_par.specs.Acquired.{Acquired, IsAmong, with_sync, with_thread_got}
use Rattle.xr_match.specs.Lives.{Watched, in_use, life_after, tie_of}
use Rattle.xr_match.specs.Meanings.{of_kernel}
use Rattle.xr_match.specs.Sources.{Counted}
use Rattle.xr_simulation.specs.Living.{AreNamed}
use Rattle.xr_simulation.specs.Roles.{AcquiredFits, Role, Roles, empty, gives_back, got_by, opens, unused, used_by}
use Rattle.xr_simulation.specs.Runners.{Setting, Runner}
use Rattle.xr_simulation.specs.ThreadViews.{HandChange, SameUse, ThreadView, gets_sync, gets_thread, held_in, keeps}
use Rattle.xr_simulation.specs.MatchStates.{MatchStates}
use Rattle.xr_simulation.proofs.Lives.ParBegins.{among_cases}
use Rattle.xr_simulation.proofs.Lives.Bound.{in_use_now, stand_of}
use Rattle.xr_simulation.proofs.Lives.OwnEvents.{step_named}
use Rattle.xr_simulation.proofs.Lives.Gets.{sync_named, thread_named}
use Rattle.xr_simulation.proofs.Lives.Names.{got_now, thread_got}
use Rattle.xr_simulation.proofs.Lives.Pieces.{Goes}
use Rattle.xr_simulation.proofs.Lives.Uses.{alike_thread, same_syncs, same_thread, taken_sync, used_thread}
use Rattle.xr_simulation.proofs.Relation.Pools.{first_unused}

-- a hand that has no synchroniser yet has no threads, and lacks some
empty_yet : (items : List Item) (h : Acquired) → h.sync ≡ None → AcquiredFits items (Some h) → (h.threads ≡ []) × (1 ≤ h.lacks)
empty_yet items h none (empty e) = absurd (none-some h (sym e))
empty_yet items h none (gives_back n e) = let both : None ≡ Some n = sym none ∙ ap sync_of e in absurd (none-some n both)
  where
    sync_of : Option Acquired → Option ℕ
    sync_of None = None
    sync_of (Some i) = i.sync
empty_yet items h none (opens held bs rest e is sum several none_held) =
    let same : h ≡ held = cc in
    let no_threads : h.threads ≡ [] = subst (λ (i : Acquired). i.sync ≡ None → i.threads ≡ []) (sym same) none_held none in
    let all : 1 + length h.threads + h.lacks ≡ branch_count bs = subst (λ (i : Acquired). 1 + length i.threads + i.lacks ≡ branch_count bs) (sym same) sum in
    let zero_threads = ap length no_threads in
    (no_threads, omega (arith, all, zero_threads, several))

module _ (g : Setting) (may_rest : (core thread : ℕ) → Bool) (who who' : Roles) (w : Watched) (m' : Machine)
    (x x' : Counted (of_kernel g.program)) (st : MatchStates g may_rest who w x) (named : AreNamed g who w x) (goes : Goes g x x') (c t : ℕ)
    (y z : ThreadView) (at_a : slice_get w.machine.cores c ≡ Some y.core) (at_b : slice_get m'.cores c ≡ Some z.core) (r : Runner) where
  abbrev w' : Watched
  w' = record { machine = m'; lives = life_after w m' c t }

  -- the thread was in use
  own_in_use : (hand : Option Acquired) → who c t ≡ used_by r hand → in_use (slice_get y.core.threads t) ≡ true
  own_in_use hand runs = in_use_now g may_rest who w x st c y.core at_a t (λ e. let both : used_by r hand ≡ unused = sym runs ∙ e in cc)

  own_thread : (hand : Option Acquired) → who c t ≡ used_by r hand → (u : ℕ) → u ≢ t → u ≢ r.thread
  own_thread hand runs u ne e = ne (e ∙ st.roles.thread c t r hand runs)

  -- no thread was got where all are used as before
  none_got : (hand : Option Acquired) → who c t ≡ used_by r hand → length z.core.threads ≡ length y.core.threads → SameUse g r y z → (u : ℕ) → thread_got y.core z.core u ≡ false
  none_got hand runs as_many same u =
      by_case (u_is_own u)
    where
      u_is_own : (v : ℕ) → (v ≡ t) ⊎ (v ≢ t)
      u_is_own v = cases_eq v t

      by_case : (u ≡ t) ⊎ (u ≢ t) → thread_got y.core z.core u ≡ false
      by_case (inl e) = used_thread y.core z.core u (ap (λ k. in_use (slice_get y.core.threads k)) e ∙ own_in_use hand runs)
      by_case (inr ne) =
          alike_thread y.core z.core as_many u (λ i at. let k = same.by u i (own_thread hand runs u ne) at in (k.0, k.1, k.2))

  pub keeps_named : (hand hand' : Option Acquired) → who c t ≡ used_by r hand → hand' ≡ hand → z.core.syncs ≡ y.core.syncs → length z.core.threads ≡ length y.core.threads → SameUse g r y z →
      who' c t ≡ used_by r hand' → ((c' t' : ℕ) → ((c' ≡ c) × (t' ≡ t) → ⊥) → who' c' t' ≡ who c' t') → AreNamed g who' w' x'
  keeps_named hand hand' runs kept syncs as_many same own others =
      step_named g who who' w m' x x' st.roles named goes.longer c t y.core z.core at_a at_b r hand runs
      (record { syncs = same_syncs y.core z.core syncs; threads = none_got hand runs as_many same }) goes.pars
      (inl (record { runner = r; left_in_hand = hand'; is = own; family = refl; stays = inl kept })) (λ c' t' ne. inl (others c' t' ne))

  pub gets_sync_named : (h : Acquired) (n : ℕ) → who c t ≡ used_by r (Some h) → h.sync ≡ None → slice_get y.core.syncs n ≡ Some false → z.core.syncs ≡ slice_set y.core.syncs n true → length z.core.threads ≡ length y.core.threads → SameUse g r y z →
      who' c t ≡ used_by r (Some (with_sync h n)) → ((c' t' : ℕ) → ((c' ≡ c) × (t' ≡ t) → ⊥) → who' c' t' ≡ who c' t') → AreNamed g who' w' x'
  gets_sync_named h n runs none free syncs as_many same own others =
      let stand = stand_of g may_rest who w x st c y.core at_a t r (Some h) runs in
      let yet = empty_yet stand.0.items h none stand.2.in_hand in
      let seven = (st.used c y.core at_a).syncs in
      let within = slice_get_within y.core.syncs n false free in
      sync_named g who who' w m' x x' st.roles named goes.longer goes.pars c t y.core z.core at_a at_b r h runs n
      (none_got (Some h) runs as_many same) (omega (arith, seven, within)) (taken_sync y.core z.core n free syncs) none yet.0 yet.1 own others

  pub gets_thread_named : (h : Acquired) (n u : ℕ) (i : Thread) → who c t ≡ used_by r (Some h) → h.sync ≡ Some n → 1 ≤ h.lacks → first_free (threads_taken y.core.threads) 0 ≡ Some u → slice_get y.core.threads u ≡ Some i →
      z.core.syncs ≡ y.core.syncs → slice_get z.core.threads u ≡ Some (tied_to n i) → ((v : ℕ) → v ≢ r.thread → v ≢ u → slice_get z.core.threads v ≡ slice_get y.core.threads v) →
      who' c t ≡ used_by r (Some (with_thread_got h u)) → who' c u ≡ got_by t → ((c' t' : ℕ) → ((c' ≡ c) × (t' ≡ t) → ⊥) → ((c' ≡ c) × (t' ≡ u) → ⊥) → who' c' t' ≡ who c' t') → AreNamed g who' w' x'
  gets_thread_named h n u i runs is lacks first there syncs tied others own its roles' =
      let mode = first_unused y.core.threads u i first there in
      let idle : in_use (slice_get y.core.threads u) ≡ false = ap in_use there ∙ ap (λ m. not (is_unused m)) mode in
      let apart : u ≢ t = λ e. let used = ap (λ k. in_use (slice_get y.core.threads k)) e ∙ own_in_use (Some h) runs in let both : false ≡ true = sym idle ∙ used in cc in
      let eight = (st.used c y.core at_a).threads in
      let within = slice_get_within y.core.threads u i there in
      thread_named g who who' w m' x x' st.roles named goes.longer goes.pars c t y.core z.core at_a at_b r h runs n
      (same_syncs y.core z.core syncs) u (omega (arith, eight, within)) apart (was_unused (who c u) refl idle)
      (got_now (in_use (slice_get y.core.threads u)) (in_use (slice_get z.core.threads u)) idle (ap in_use tied)) (ap tie_of tied)
      (λ v ne. no_other v ne (cases_eq v t)) is lacks own its roles'
    where
      was_unused : (role : Role) → who c u ≡ role → in_use (slice_get y.core.threads u) ≡ false → who c u ≡ unused
      was_unused unused e idle = e
      was_unused (got_by v) e idle = let used = in_use_now g may_rest who w x st c y.core at_a u (λ f. let both : got_by v ≡ unused = sym e ∙ f in cc) in let both : false ≡ true = sym idle ∙ used in absurd cc
      was_unused (used_by s other) e idle = let used = in_use_now g may_rest who w x st c y.core at_a u (λ f. let both : used_by s other ≡ unused = sym e ∙ f in cc) in let both : false ≡ true = sym idle ∙ used in absurd cc

      no_other : (v : ℕ) → v ≢ u → (v ≡ t) ⊎ (v ≢ t) → thread_got y.core z.core v ≡ false
      no_other v ne (inl e) = used_thread y.core z.core v (ap (λ k. in_use (slice_get y.core.threads k)) e ∙ own_in_use (Some h) runs)
      no_other v ne (inr other) = same_thread y.core z.core v (others v (own_thread (Some h) runs v other) ne)

  -- a thread that is held then, and was, has the role that it had
  all_others : (us vs : List ℕ) → ((u : ℕ) → IsAmong us u → who' c u ≡ got_by t) → ((u : ℕ) → IsAmong vs u → who c u ≡ got_by t) → (Apart : ℕ → ℕ → Type 0) → ((c' t' : ℕ) → Apart c' t' → c' ≡ c → IsAmong us t' → IsAmong vs t') →
      ((c' t' : ℕ) → ((c' ≡ c) × (t' ≡ t) → ⊥) → (c' ≡ c → IsAmong us t' → ⊥) → who' c' t' ≡ who c' t') → (c' t' : ℕ) → ((c' ≡ c) × (t' ≡ t) → ⊥) → Apart c' t' → who' c' t' ≡ who c' t'
  all_others us vs held before Apart still others c' t' ne apart =
      ⊎_elim
      (λ (e : c' ≡ c).
      ⊎_elim
      (λ (m : IsAmong us t'). ap (λ k. who' k t') e ∙ held t' m ∙ sym (before t' (still c' t' apart e m)) ∙ ap (λ k. who k t') (sym e))
      (λ (none : IsAmong us t' → ⊥). others c' t' ne (λ f. none))
      (among_cases us t'))
      (λ (far : c' ≢ c). others c' t' ne (λ f m. far f))
      (cases_eq c' c)

  -- All three: the thread runs the branch still, those in its hand were got by it, and all others have the roles that they had.
  pub silent_named : HandChange g r y z → who c t ≡ used_by r y.hand → length z.core.threads ≡ length y.core.threads → who' c t ≡ used_by r z.hand → ((u : ℕ) → IsAmong (held_in z.hand) u → who' c u ≡ got_by t) →
      ((c' t' : ℕ) → ((c' ≡ c) × (t' ≡ t) → ⊥) → (c' ≡ c → IsAmong (held_in z.hand) t' → ⊥) → who' c' t' ≡ who c' t') → AreNamed g who' w' x'
  silent_named (keeps kept syncs same) runs as_many own held others =
      keeps_named y.hand z.hand runs kept syncs as_many same own
      (λ c' t' ne. all_others (held_in z.hand) (held_in y.hand) held (λ u m. st.roles.held c t u r y.hand runs m) (λ k l. Unit {0}) (λ k l a f m. subst (λ o. IsAmong (held_in o) l) kept m) others c' t' ne tt)
  silent_named (gets_sync h n e none free syncs got same) runs as_many own held others =
      let runs' = runs ∙ ap (used_by r) e in
      gets_sync_named h n runs' none free syncs as_many same (own ∙ ap (used_by r) got)
      (λ c' t' ne. all_others (held_in z.hand) h.threads held (λ u m. st.roles.held c t u r (Some h) runs' m) (λ k l. Unit {0}) (λ k l a f m. subst (λ o. IsAmong (held_in o) l) got m) others c' t' ne tt)
  silent_named (gets_thread h n u i e is lacks first there syncs got tied same) runs as_many own held others =
      let runs' = runs ∙ ap (used_by r) e in
      gets_thread_named h n u i runs' is lacks first there syncs tied same (own ∙ ap (used_by r) got) (held u (subst (λ o. IsAmong (held_in o) u) (sym got) (inl refl)))
      (λ c' t' ne neu.
      all_others (held_in z.hand) h.threads held (λ v m. st.roles.held c t v r (Some h) runs' m) (λ k l. (k ≡ c) × (l ≡ u) → ⊥)
      (λ k l apart f m. ⊎_elim (λ (s : l ≡ u). absurd (apart (f, s))) (λ (rest : IsAmong h.threads l). rest) (subst (λ o. IsAmong (held_in o) l) got m)) others c' t' ne neu)
