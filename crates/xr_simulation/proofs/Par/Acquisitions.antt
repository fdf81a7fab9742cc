-- What a silent step makes of the roles, by what it makes of the thread's hand.
use Rattle.std.proofs.Common.{◌≡◌, ℕ, suc, ◌+◌, ◌-◌, ◌<◌, ◌≤◌, ◌≢◌, ◌⊎◌, inl, inr, [], ◌∷◌, List, length, Option, Some, None, refl, sym, ap, ◌∙◌, subst, ⊎_elim, arith, eq-eqb}
use Rattle.std.specs.Prelude.{Bool, true, false, ◌||◌, nat_eq, slice_get, slice_set}
use Rattle.std.proofs.lemmas.Bool.{cases_eq, eqb-true, ne_eqb}
use Rattle.std.proofs.lemmas.List.{length-set}
use Rattle.std.proofs.lemmas.Option.{same_Some, slice_get_within}
use Rattle.xs_instr.specs.declared.state.Mode.{Mode as ThreadMode}
use Rattle.xs_instr.specs.declared.state.Mode.TheVariants.{Running, Unused, Waiting}
use Rattle.xs_instr.specs.Machine.{Machine, Step, noted}
use Rattle.xs_instr.specs.declared.state.Thread.{Thread}
use Rattle.xs_instr.specs.Pool.{first_free, is_tied, is_unused, threads_taken, tied_to}
use Rattle.xc_disjoint.specs.Needs.{threads_on}
use Rattle.xc_meaning.specs.Counts.KernelCounts.{branch_count}
use Rattle.xc_meaning.specs.States.Branches.{Branch}
use Rattle.xc_meaning.specs.States.Items.{Item}
use Rattle.xl_expr.proofs.Lists.{get_set_same, get_set_other}
use Rattle.xl_par.specs.Acquired.{Acquired, IsAmong, with_sync, with_thread_got}
use Rattle.xr_match.specs.Lives.{life_after, watched_after}
use Rattle.xr_match.specs.Meanings.{of_kernel}
use Rattle.xr_match.specs.Sources.{Counted}
use Rattle.xr_simulation.specs.Roles.{AreUsedSo, AcquiredFits, Role, Roles, empty, gives_back, got_by, opens, unused, used_by}
use Rattle.xr_simulation.specs.Runners.{Runner}
use Rattle.xr_simulation.specs.ThreadViews.{HandChange, IsSilentStep, Owns, gets_sync, gets_thread, keeps, SameUse, ThreadView, StillRuns, Guarantee, giving_back, held_in, sync_in}
use Rattle.xr_simulation.specs.MatchStates.{EventsAre, ProgressBy, ThreadIs, none_rests}
use Rattle.xr_simulation.specs.Living.{AreNamed}
use Rattle.xr_simulation.proofs.Relation.Moments.{BranchAt, Moment, ThreadAt}
use Rattle.xr_simulation.proofs.Lives.Links.{gets_sync_linked, gets_thread_linked, keeps_linked, told_same}
use Rattle.xr_simulation.proofs.Lives.Pieces.{Goes}
use Rattle.xr_simulation.proofs.Relation.Lasting.{Follows, told_by}
use Rattle.xr_simulation.specs.NextStep.{IsFree, IsWaitingTied}
use Rattle.xr_simulation.proofs.Relation.CoreSteps.{crew_at, same_hand, same_runner, stands_at, works_at}
use Rattle.xr_simulation.proofs.OwnSteps.Events.{only_thread}
use Rattle.xr_simulation.proofs.Relation.Pools.{first_unused, num_is}
use Rattle.xr_simulation.proofs.Relation.Reserves.{GiveAsBefore}
use Rattle.xr_simulation.proofs.Par.Rooms.{first_unused_inside}
use Rattle.xr_simulation.proofs.Relation.SeatChanges.{Place, gets, got_same, new, old, own, own_now, place, roles_get}
use Rattle.xr_simulation.proofs.Relation.Seats.{role_cases, role_far, role_here, role_other, roles_go_on, seated_itself, with_role}
use Rattle.xr_simulation.proofs.RelyGuarantee.SilentSteps.{SilentRoles, silent_answered}
use Rattle.xr_simulation.proofs.Relation.Usage.{IsUsedAlike, OthersUsed, free_still, used_get, used_on, waits_still}
use Rattle.xr_simulation.proofs.OwnSteps.Branch.{own_thread_of}

-- whether a thread is held
abbrev pub is_held : List ℕ → ℕ → Bool
is_held [] u = false
is_held (v ∷ vs) u = nat_eq u v || is_held vs u

or_false : (a b : Bool) → (a || b) ≡ false → (a ≡ false) × (b ≡ false)
or_false true b e = let f : true ≡ false = e in cc
or_false false b e = (refl, e)

or_true : (a b : Bool) → (a || b) ≡ true → (a ≡ true) ⊎ (b ≡ true)
or_true true b e = inl refl
or_true false b e = inr e

true_or : (a b : Bool) → a ≡ true → (a || b) ≡ true
true_or a b e = ap (λ k. k || b) e

not_same : (u v : ℕ) → nat_eq u v ≡ false → u ≢ v
not_same u v e f = let both : true ≡ false = sym (eq-eqb u v f) ∙ e in cc

held_true : (vs : List ℕ) (u : ℕ) → is_held vs u ≡ true → IsAmong vs u
held_true [] u e = let both : false ≡ true = e in cc
held_true (v ∷ vs) u e = ⊎_elim (λ (f : nat_eq u v ≡ true). inl (eqb-true u v f)) (λ (f : is_held vs u ≡ true). inr (held_true vs u f)) (or_true (nat_eq u v) (is_held vs u) e)

held_false : (vs : List ℕ) (u : ℕ) → is_held vs u ≡ false → IsAmong vs u → ⊥
held_false [] u e m = m
held_false (v ∷ vs) u e (inl f) = not_same u v (or_false (nat_eq u v) (is_held vs u) e).0 f
held_false (v ∷ vs) u e (inr m) = held_false vs u (or_false (nat_eq u v) (is_held vs u) e).1 m

-- who holds a thread has a synchroniser
pub hand_sync : (items : List Item) (hand : Option Acquired) (u : ℕ) → AcquiredFits items hand → IsAmong (held_in hand) u → (n : ℕ) × (sync_in hand ≡ Some n)
hand_sync items hand u (empty e) m = absurd (subst (λ h. IsAmong (held_in h) u) e m)
hand_sync items hand u (gives_back n e) m = absurd (subst (λ h. IsAmong (held_in h) u) e m)
hand_sync items hand u (opens h bs rest e is count several synced) m = by h.sync refl
  where
    by : (o : Option ℕ) → h.sync ≡ o → (n : ℕ) × (sync_in hand ≡ Some n)
    by None none = absurd (subst (λ l. IsAmong l u) (synced none) (subst (λ k. IsAmong (held_in k) u) e m))
    by (Some n) some = (n, ap sync_in e ∙ some)

module _ {moment : Moment none_rests} {hand : Option Acquired} (thread_at : ThreadAt moment hand)
    (branch : Branch) (fits : AcquiredFits branch.items hand) (z : ThreadView) (on : StillRuns moment.setting thread_at.runner z.core)
    (guarantee : Guarantee moment.setting thread_at.runner
    (record { core = thread_at.state; world = moment.told.state; hand = hand }) z) where
  open moment use {setting as g, image as is, roles as who, watched as w, told as x, standing as st}
  open thread_at use {core as c, thread as t, state as a, at_core as at_c, runner as r, runs as runs_r}

  abbrev now : ThreadView
  now = record { core = a; world = x.state; hand = hand }

  thread_is : r.thread ≡ t
  thread_is = st.roles.thread c t r hand runs_r

  got_runs : (k : ℕ) (s : Runner) (h : Option Acquired) → got_by k ≡ used_by s h → ⊥
  got_runs k s h e = cc

  unused_runs : (s : Runner) (h : Option Acquired) → unused ≡ used_by s h → ⊥
  unused_runs s h e = cc

  unused_got : (k : ℕ) → unused ≡ got_by k → ⊥
  unused_got k e = cc

  none_some : (n : ℕ) → ◌≡◌ {A = Option ℕ} None (Some n) → ⊥
  none_some n e = cc

  -- other threads are used alike
  alike : SameUse g r now z → (u : ℕ) → u ≢ t → IsUsedAlike a z.core u
  alike same u ne = record { by = λ th there. same.by u th (λ e. ne (e ∙ thread_is)) there }

  -- what the own thread is tied to
  own_tie : (u n : ℕ) (thread : Thread) → u ≡ t → slice_get z.core.threads u ≡ Some thread → is_tied thread n ≡ true → r.tie ≡ Some n
  own_tie u n thread at there tied =
      let same : on.thread ≡ thread = same_Some on.thread thread (sym on.there ∙ ap (slice_get z.core.threads) (thread_is ∙ sym at) ∙ there) in
      sym on.tied ∙ ap (λ (k : Thread). k.tie) same ∙ num_is thread.tie n tied

  -- A thread that it holds is tied to its synchroniser.
  held_waits : (u : ℕ) → IsAmong (held_in hand) u → (n : ℕ) × (sync_in hand ≡ Some n) × IsWaitingTied n (slice_get a.threads u)
  held_waits u m =
      let n = hand_sync branch.items hand u fits m in
      (n.0, n.1, (st.used c a at_c).got u t n.0 r hand (st.roles.held c t u r hand runs_r m) runs_r n.1)

  held_tie : (u n m : ℕ) (thread : Thread) → SameUse g r now z → u ≢ t → IsWaitingTied n (slice_get a.threads u) → slice_get z.core.threads u ≡ Some thread → is_tied thread m ≡ true → n ≡ m
  held_tie u n m thread same ne waits there tied = same_Some n m (sym (subst (IsWaitingTied n) there (waits_still a z.core u n (alike same u ne) waits)).tied ∙ num_is thread.tie m tied)

  -- it keeps what it has
  module _ (as_was : z.hand ≡ hand) (same_syncs : z.core.syncs ≡ a.syncs) (same : SameUse g r now z) where
    moved_held : (u : ℕ) → only_thread t u || is_held (held_in hand) u ≡ true → u ≢ t → IsAmong (held_in hand) u
    moved_held u m ne =
        ⊎_elim
        (λ (e : only_thread t u ≡ true). absurd (ne (eqb-true u t e)))
        (λ (e : is_held (held_in hand) u ≡ true). held_true (held_in hand) u e)
        (or_true (only_thread t u) (is_held (held_in hand) u) m)

    keeps_used : AreUsedSo who c z.core
    keeps_used =
        let used = st.used c a at_c in
        record {
          threads = guarantee.as_many ∙ used.threads;
          syncs = ap length same_syncs ∙ used.syncs;
          unused = λ u few free. free_still a z.core u (alike same u (λ e. unused_runs r hand (sym free ∙ ap (who c) e ∙ runs_r))) (used.unused u few free);
          got = λ u k n i other got its sync. waits_still a z.core u n (alike same u (λ e. got_runs k r hand (sym got ∙ ap (who c) e ∙ runs_r))) (used.got u k n i other got its sync);
          taken = λ n taken. used.taken n (ap (λ l. slice_get l n) (sym same_syncs) ∙ taken);
          owned = λ u n i other at owns. ap (λ l. slice_get l n) same_syncs ∙ used.owned u n i other at owns;
        }

    pub keeps_roles : SilentRoles g who who c t r hand hand a z.core branch (λ u. only_thread t u || is_held (held_in hand) u)
    keeps_roles = record {
      own = true_or (only_thread t t) (is_held (held_in hand) t) (eq-eqb t t refl);
      now = runs_r;
      in_hand = fits;
      same_role = λ u m. refl;
      far_role = λ d u ne. refl;
      others_got = λ u m ne. st.roles.held c t u r hand runs_r (moved_held u m ne);
      fresh = λ u m ne. inl (st.roles.held c t u r hand runs_r (moved_held u m ne));
      before = λ d u i other at. (other, at);
      still = λ d u i other at. (other, at);
      gives = record { before = λ d u n i at. (i, n, at, refl) };
      roles = st.roles;
      used = keeps_used;
      threads = λ u m. let f = or_false (only_thread t u) (is_held (held_in hand) u) m in guarantee.others u (λ e. not_same u t f.0 (e ∙ thread_is)) (λ k. not_z_held u f.1 k);
      not_held = λ u s got ne. not_moved u s got ne;
      ties = λ u n thread m there tied. tied_to_own u n thread m there tied (cases_eq u t);
      syncs = λ n ne taken. ap (λ l. slice_get l n) same_syncs ∙ taken;
    }
      where
        not_z_held : (u : ℕ) → is_held (held_in hand) u ≡ false → IsAmong (held_in z.hand) u → ⊥
        not_z_held u f m = held_false (held_in hand) u f (subst (λ h. IsAmong (held_in h) u) as_was m)

        not_moved : (u s : ℕ) → who c u ≡ got_by s → s ≢ t → (only_thread t u || is_held (held_in hand) u) ≡ false
        not_moved u s got ne = by (only_thread t u || is_held (held_in hand) u) refl
          where
            by : (m : Bool) → (only_thread t u || is_held (held_in hand) u) ≡ m → (only_thread t u || is_held (held_in hand) u) ≡ false
            by false m = m
            by true m =
                let not_t : u ≢ t = λ e. got_runs s r hand (sym got ∙ ap (who c) e ∙ runs_r) in
                absurd (ne (got_same s t (sym got ∙ st.roles.held c t u r hand runs_r (moved_held u m not_t))))

        tied_to_own : (u n : ℕ) (thread : Thread) → (only_thread t u || is_held (held_in hand) u) ≡ true → slice_get z.core.threads u ≡ Some thread → is_tied thread n ≡ true → (u ≡ t) ⊎ (u ≢ t) → Owns r hand n ⊎ (r.tie ≡ Some n)
        tied_to_own u n thread m there tied (inl e) = inr (own_tie u n thread e there tied)
        tied_to_own u n thread m there tied (inr ne) =
            let h = held_waits u (moved_held u m ne) in
            inl (inr (h.1 ∙ ap Some (held_tie u h.0 n thread same ne h.2 there tied)))

  -- it gets a synchroniser
  module _ (h : Acquired) (n : ℕ) (in_hand : hand ≡ Some h) (none : h.sync ≡ None) (free : slice_get a.syncs n ≡ Some false) (taken : z.core.syncs ≡ slice_set a.syncs n true) (with_it : z.hand ≡ Some (with_sync h n)) (same : SameUse g r now z) where
    abbrev pub hand_synced : Option Acquired
    hand_synced = Some (with_sync h n)

    abbrev pub who_synced : Roles
    who_synced = with_role who c t (used_by r hand_synced)

    -- it holds no threads yet
    holds_none : (AcquiredFits branch.items hand) → h.threads ≡ []
    holds_none (empty e) = let both : Some h ≡ None = sym in_hand ∙ e in cc
    holds_none (gives_back m e) = let both : None ≡ Some m = sym none ∙ ap sync_in (sym in_hand ∙ e) in absurd (none_some m both)
    holds_none (opens k bs rest e is count several synced) =
        let one : h ≡ k = same_Some h k (sym in_hand ∙ e) in
        ap (λ (i : Acquired). i.threads) one ∙ synced (ap (λ (i : Acquired). i.sync) (sym one) ∙ none)

    holds_none_now : (u : ℕ) → IsAmong (held_in hand) u → ⊥
    holds_none_now u m = subst (λ l. IsAmong l u) (ap held_in in_hand ∙ holds_none fits) m

    free_not_taken : (m : ℕ) → slice_get a.syncs m ≡ Some true → m ≢ n
    free_not_taken m e f = let both : true ≡ false = same_Some true false (sym e ∙ ap (slice_get a.syncs) f ∙ free) in cc

    synced_fits : AcquiredFits branch.items hand → AcquiredFits branch.items hand_synced
    synced_fits (empty e) = let both : Some h ≡ None = sym in_hand ∙ e in cc
    synced_fits (gives_back m e) = let both : None ≡ Some m = sym none ∙ ap sync_in (sym in_hand ∙ e) in absurd (none_some m both)
    synced_fits (opens k bs rest e is count several synced) =
        let one : k ≡ h = same_Some k h (sym e ∙ in_hand) in
        opens (with_sync h n) bs rest refl is (subst (λ (i : Acquired). 1 + length i.threads + i.lacks ≡ branch_count bs) one count) several (λ f. absurd (none_some n (sym f)))

    synced_others : OthersUsed g who c t st.roles r hand runs_r a z.core (st.used c a at_c)
    synced_others = record {
      as_many = guarantee.as_many;
      as_many_syncs = ap length taken ∙ length-set a.syncs n true;
      alike = λ u ne. alike same u ne;
      syncs = λ m not_own e. ap (λ l. slice_get l m) taken ∙ get_set_other a.syncs n m true (free_not_taken m e) ∙ e;
    }

    synced_owned : (m : ℕ) → Owns r hand_synced m → slice_get z.core.syncs m ≡ Some true
    synced_owned m (inl p) =
        let e = (st.used c a at_c).owned t m r hand runs_r (inl p) in
        ap (λ l. slice_get l m) taken ∙ get_set_other a.syncs n m true (free_not_taken m e) ∙ e
    synced_owned m (inr e) = ap (λ l. slice_get l m) taken ∙ ap (slice_get (slice_set a.syncs n true)) (sym (same_Some n m e)) ∙ get_set_same a.syncs n false true free

    synced_taken : (m : ℕ) → slice_get z.core.syncs m ≡ Some true → Owns r hand_synced m ⊎ ((slice_get a.syncs m ≡ Some true) × (Owns r hand m → Owns r hand_synced m))
    synced_taken m e =
        ⊎_elim
        (λ (f : m ≡ n). inl (inr (ap Some (sym f))))
        (λ (ne : m ≢ n). inr (sym (get_set_other a.syncs n m true ne) ∙ ap (λ l. slice_get l m) (sym taken) ∙ e, λ owns. owns_still m owns))
        (cases_eq m n)
      where
        owns_still : (m : ℕ) → Owns r hand m → Owns r hand_synced m
        owns_still m (inl p) = inl p
        owns_still m (inr f) = absurd (none_some m (sym none ∙ ap sync_in (sym in_hand) ∙ f))

    synced_gives : GiveAsBefore who who_synced
    synced_gives = record {
      before = λ d u m i at.
          ⊎_elim
          (λ here. let e : hand_synced ≡ giving_back m = same_hand r i hand_synced (giving_back m) (sym here.2 ∙ at) in absurd (not_giving fits (lacks_none m e)))
          (λ there. (i, m, sym there.1 ∙ at, refl))
          (role_cases who c t (used_by r hand_synced) d u);
    }
      where
        lacks_none : (m : ℕ) → hand_synced ≡ giving_back m → h.lacks ≡ 0
        lacks_none m e = ap (λ (k : Acquired). k.lacks) (same_Some (with_sync h n) (record { sync = Some m; threads = []; lacks = 0 }) e)

        not_giving : AcquiredFits branch.items hand → h.lacks ≡ 0 → ⊥
        not_giving (empty e) l = let both : Some h ≡ None = sym in_hand ∙ e in cc
        not_giving (gives_back m e) l = let both : None ≡ Some m = sym none ∙ ap sync_in (sym in_hand ∙ e) in none_some m both
        not_giving (opens k bs rest e is count several synced) l =
            let one : k ≡ h = same_Some k h (sym e ∙ in_hand) in
            let count' : 1 + length h.threads + h.lacks ≡ branch_count bs = subst (λ (i : Acquired). 1 + length i.threads + i.lacks ≡ branch_count bs) one count in
            let empty_threads : length h.threads ≡ 0 = ap length (holds_none (opens k bs rest e is count several synced)) in
            omega arith

    pub gets_sync_roles : SilentRoles g who who_synced c t r hand hand_synced a z.core branch (only_thread t)
    gets_sync_roles = record {
      own = eq-eqb t t refl;
      now = role_here who c t (used_by r hand_synced);
      in_hand = synced_fits fits;
      same_role = λ u m. role_other who c t (used_by r hand_synced) u (not_same u t m);
      far_role = λ d u ne. role_far who c t (used_by r hand_synced) d u ne;
      others_got = λ u m ne. absurd (ne (eqb-true u t m));
      fresh = λ u m ne. absurd (ne (eqb-true u t m));
      before = λ d u i other at.
          ⊎_elim
          (λ here. (hand, ap (λ k. who k u) here.0 ∙ ap (who c) here.1 ∙ runs_r ∙ ap (λ k. used_by k hand) (same_runner r i hand_synced other (sym here.2 ∙ at))))
          (λ there. (other, sym there.1 ∙ at))
          (role_cases who c t (used_by r hand_synced) d u);
      still = λ d u i other at.
          ⊎_elim
          (λ here. (hand_synced, here.2 ∙ ap (λ k. used_by k hand_synced) (same_runner r i hand other (sym runs_r ∙ sym (ap (λ k. who k u) here.0 ∙ ap (who c) here.1) ∙ at))))
          (λ there. (other, there.1 ∙ at))
          (role_cases who c t (used_by r hand_synced) d u);
      gives = synced_gives;
      roles = roles_go_on g who c t st.roles r hand runs_r r hand_synced (record {
        seated = seated_itself r;
        held = ap held_in (sym in_hand);
        sync = λ m e. inr (λ u i other at owns. free_not_taken m ((st.used c a at_c).owned u m i other at owns) (sym (same_Some n m e)));
        branches = λ m b. inl b;
      });
      used = used_on g who c t st.roles r hand runs_r a z.core (st.used c a at_c) r hand_synced synced_others synced_taken synced_owned (λ m u e k. absurd (holds_none_now u k));
      threads = λ u m. guarantee.others u (λ e. not_same u t m (e ∙ thread_is)) (λ k. holds_none_now u (subst (λ l. IsAmong l u) (ap held_in with_it ∙ sym (ap held_in in_hand)) k));
      not_held = λ u s got ne. ne_eqb u t (λ e. got_runs s r hand (sym got ∙ ap (who c) e ∙ runs_r));
      ties = λ u m thread e there tied. inr (own_tie u m thread (eqb-true u t e) there tied);
      syncs = λ m not_own e. synced_others.syncs m not_own e;
    }

  -- it gets a thread
  module _ (h : Acquired) (n v : ℕ) (x' : Thread) (in_hand : hand ≡ Some h) (synced : h.sync ≡ Some n) (lacks : 1 ≤ h.lacks) (next : first_free (threads_taken a.threads) 0 ≡ Some v) (there : slice_get a.threads v ≡ Some x')
      (same_syncs : z.core.syncs ≡ a.syncs) (tied : slice_get z.core.threads v ≡ Some (tied_to n x')) (others : (u : ℕ) → u ≢ r.thread → u ≢ v → slice_get z.core.threads u ≡ slice_get a.threads u) where
    pub runs_h : who c t ≡ used_by r (Some h)
    runs_h = runs_r ∙ ap (used_by r) in_hand

    unused_now : x'.mode ≡ Unused
    unused_now = first_unused a.threads v x' next there

    -- nobody has the thread
    is_unused_by : (role : Role) → who c v ≡ role → who c v ≡ unused
    is_unused_by unused e = e
    is_unused_by (got_by k) e =
        let q = st.roles.got c v k e in
        let holder = works_at moment c k q.0 q.1 q.2 in
        let sync = hand_sync holder.branch.items q.1 v holder.in_hand q.3 in
        let waits = subst (IsWaitingTied sync.0) there ((st.used c a at_c).got v k sync.0 q.0 q.1 e q.2 sync.1) in
        let both : Unused ≡ Waiting = sym unused_now ∙ waits.waits in
        cc
    is_unused_by (used_by i other) e =
        let own_thread = own_thread_of g i false other a x.state (w.lives c v) x.actions (stands_at moment c v a i other at_c e) in
        let same : own_thread.thread ≡ x' = same_Some own_thread.thread x' (sym own_thread.there ∙ ap (slice_get a.threads) (st.roles.thread c v i other e) ∙ there) in
        absurd (own_thread.used (ap (λ (k : Thread). k.mode) same ∙ unused_now))

    pub free_role : who c v ≡ unused
    free_role = is_unused_by (who c v) refl

    pub few_there : v < 8
    few_there = let lt = slice_get_within a.threads v x' there in let eight = (st.used c a at_c).threads in omega arith

    pub inside_there : v < threads_on g.program c
    inside_there = first_unused_inside g who x.state c a (crew_at moment c a at_c) t v r h runs_h lacks next

    abbrev pub hand_more : Option Acquired
    hand_more = Some (with_thread_got h v)

    abbrev pub who_more : Roles
    who_more = gets g who c t v st.roles r h runs_h free_role few_there inside_there

    abbrev at_place : (d u : ℕ) → Place g who c t v st.roles r h runs_h free_role few_there inside_there d u
    at_place d u = place g who c t v st.roles r h runs_h free_role few_there inside_there d u

    v_not_t : v ≢ t
    v_not_t e = unused_runs r (Some h) (sym free_role ∙ ap (who c) e ∙ runs_h)

    more_fits : AcquiredFits branch.items hand → AcquiredFits branch.items hand_more
    more_fits (empty e) = let both : Some h ≡ None = sym in_hand ∙ e in cc
    more_fits (gives_back m e) =
        let one : h ≡ record { sync = Some m; threads = []; lacks = 0 } = same_Some h (record { sync = Some m; threads = []; lacks = 0 }) (sym in_hand ∙ e) in
        let none : h.lacks ≡ 0 = ap (λ (k : Acquired). k.lacks) one in
        absurd (let f : ⊥ = omega arith in f)
    more_fits (opens k bs rest e is count several sync) =
        let one : k ≡ h = same_Some k h (sym e ∙ in_hand) in
        let count' : 1 + length h.threads + h.lacks ≡ branch_count bs = subst (λ (i : Acquired). 1 + length i.threads + i.lacks ≡ branch_count bs) one count in
        let more : 1 + length (v ∷ h.threads) + (h.lacks - 1) ≡ branch_count bs = omega arith in
        opens (with_thread_got h v) bs rest refl is more several (λ f. absurd (none_some n (sym f ∙ synced)))

    moved_more : (u : ℕ) → (only_thread t u || only_thread v u) ≡ true → u ≢ t → u ≡ v
    moved_more u m ne =
        ⊎_elim
        (λ (e : only_thread t u ≡ true). absurd (ne (eqb-true u t e)))
        (λ (e : only_thread v u ≡ true). eqb-true u v e)
        (or_true (only_thread t u) (only_thread v u) m)

    -- each runner is there as before
    before_more : (d u : ℕ) (i : Runner) (other : Option Acquired) → who_more d u ≡ used_by i other → Place g who c t v st.roles r h runs_h free_role few_there inside_there d u → (was : Option Acquired) × (who d u ≡ used_by i was)
    before_more d u i other at (own dc ut is_now was) = (Some h, was ∙ ap (λ k. used_by k (Some h)) (same_runner r i hand_more other (sym is_now ∙ at)))
    before_more d u i other at (new dc uv is_now was) = absurd (got_runs t i other (sym is_now ∙ at))
    before_more d u i other at (old same) = (other, sym same ∙ at)

    still_more : (d u : ℕ) (i : Runner) (other : Option Acquired) → who d u ≡ used_by i other → Place g who c t v st.roles r h runs_h free_role few_there inside_there d u → (more : Option Acquired) × (who_more d u ≡ used_by i more)
    still_more d u i other at (own dc ut is_now was) = (hand_more, is_now ∙ ap (λ k. used_by k hand_more) (same_runner r i (Some h) other (sym was ∙ at)))
    still_more d u i other at (new dc uv is_now was) = absurd (unused_runs i other (sym was ∙ at))
    still_more d u i other at (old same) = (other, same ∙ at)

    gives_more : (d u m : ℕ) (i : Runner) → who_more d u ≡ used_by i (giving_back m) → Place g who c t v st.roles r h runs_h free_role few_there inside_there d u → (s : Runner) × (k : ℕ) × (who d u ≡ used_by s (giving_back k)) × (s.branch ≡ i.branch)
    gives_more d u m i at (own dc ut is_now was) =
        let e : hand_more ≡ giving_back m = same_hand r i hand_more (giving_back m) (sym is_now ∙ at) in
        let lists : length (held_in hand_more) ≡ length (held_in (giving_back m)) = ap (λ k. length (held_in k)) e in
        absurd (let f : ⊥ = omega arith in f)
    gives_more d u m i at (new dc uv is_now was) = absurd (got_runs t i (giving_back m) (sym is_now ∙ at))
    gives_more d u m i at (old same) = (i, m, sym same ∙ at, refl)

    same_more : (u : ℕ) → u ≢ t → u ≢ v → who_more c u ≡ who c u
    same_more u ne nv = role_other (with_role who c t (used_by r hand_more)) c v (got_by t) u nv ∙ role_other who c t (used_by r hand_more) u ne

    -- and so the lives are named
    pub more_named : AreNamed g who w x → (m' : Machine) → slice_get m'.cores c ≡ Some z.core → (y : Counted (of_kernel g.program)) → Goes g x y → AreNamed g who_more (record { machine = m'; lives = life_after w m' c t }) y
    more_named names m' at_b y goes =
        gets_thread_linked g none_rests who w x st names m' c t now z at_c at_b r y goes h n v x' runs_h free_role few_there inside_there synced lacks next there same_syncs tied others

    pub gets_thread_roles : SilentRoles g who who_more c t r hand hand_more a z.core branch (λ u. only_thread t u || only_thread v u)
    gets_thread_roles = record {
      own = true_or (only_thread t t) (only_thread v t) (eq-eqb t t refl);
      now = own_now g who c t v st.roles r h runs_h free_role few_there inside_there;
      in_hand = more_fits fits;
      same_role = λ u m. let f = or_false (only_thread t u) (only_thread v u) m in same_more u (not_same u t f.0) (not_same u v f.1);
      far_role = λ d u ne. role_far (with_role who c t (used_by r hand_more)) c v (got_by t) d u ne ∙ role_far who c t (used_by r hand_more) d u ne;
      others_got = λ u m ne. ap (who_more c) (moved_more u m ne) ∙ role_here (with_role who c t (used_by r hand_more)) c v (got_by t);
      fresh = λ u m ne.
          let at = moved_more u m ne in
          inr (record {
            old = x';
            was = ap (slice_get a.threads) at ∙ there;
            unused = ap is_unused unused_now;
            new = tied_to n x';
            is = ap (slice_get z.core.threads) at ∙ tied;
            used = refl;
          });
      before = λ d u i other at. before_more d u i other at (at_place d u);
      still = λ d u i other at. still_more d u i other at (at_place d u);
      gives = record { before = λ d u m i at. gives_more d u m i at (at_place d u) };
      roles = roles_get g who c t v st.roles r h runs_h free_role few_there inside_there;
      used = used_get g who c t v st.roles r h runs_h free_role few_there inside_there a z.core (st.used c a at_c) n synced guarantee.as_many same_syncs
          (subst (IsWaitingTied n) (sym tied) (record { waits = refl; no_events = no_event_bit; tied = refl }))
          (λ u ne nv. others u (λ e. ne (e ∙ thread_is)) nv);
      threads = λ u m. let f = or_false (only_thread t u) (only_thread v u) m in others u (λ e. not_same u t f.0 (e ∙ thread_is)) (not_same u v f.1);
      not_held = λ u s got ne. not_moved_more u s got;
      ties = λ u m thread f at tied_m. ties_more u m thread f at tied_m (cases_eq u t);
      syncs = λ m not_own taken. ap (λ l. slice_get l m) same_syncs ∙ taken;
    }
      where
        no_event_bit : x'.event_bit ≡ false
        no_event_bit = (subst IsFree there ((st.used c a at_c).unused v few_there free_role)).no_events

        not_moved_more : (u s : ℕ) → who c u ≡ got_by s → (only_thread t u || only_thread v u) ≡ false
        not_moved_more u s got =
            ap (λ b. b || only_thread v u) (ne_eqb u t (λ e. got_runs s r hand (sym got ∙ ap (who c) e ∙ runs_r)))
            ∙ ne_eqb u v (λ e. unused_got s (sym free_role ∙ ap (who c) (sym e) ∙ got))

        ties_more : (u m : ℕ) (thread : Thread) → (only_thread t u || only_thread v u) ≡ true → slice_get z.core.threads u ≡ Some thread → is_tied thread m ≡ true → (u ≡ t) ⊎ (u ≢ t) → Owns r hand m ⊎ (r.tie ≡ Some m)
        ties_more u m thread f at tied_m (inl e) = inr (own_tie u m thread e at tied_m)
        ties_more u m thread f at tied_m (inr ne) =
            let same : tied_to n x' ≡ thread = same_Some (tied_to n x') thread (sym tied ∙ ap (slice_get z.core.threads) (sym (moved_more u f ne)) ∙ at) in
            let one : Some n ≡ Some m = ap (λ (k : Thread). k.tie) same ∙ num_is thread.tie m tied_m in
            inl (inr (ap sync_in in_hand ∙ synced ∙ one))

-- A silent step leads on, whatever it makes of the thread's hand.
module _ {moment : Moment none_rests} {hand : Option Acquired} {thread_at : ThreadAt moment hand} (branch_at : BranchAt thread_at)
    (z : ThreadView) (alive : (mode : ThreadMode) → mode ≡ Running → ThreadIs thread_at.runner.parents branch_at.branch.mode mode)
    (calm : (bit : Bool) → bit ≡ false → EventsAre branch_at.branch.mode branch_at.branch.items bit)
    (silent : IsSilentStep moment.setting thread_at.runner (record { core = thread_at.state; world = moment.told.state; hand = hand }) z)
    (left : ℕ) (few : suc left ≤ branch_at.stand.left)
    (by : ProgressBy moment.setting thread_at.runner false branch_at.branch.items branch_at.branch.mode left z) where
  open moment use {setting as g, image as is, roles as who, watched as w, told as x, standing as st}
  open thread_at use {core as c, thread as t, state as a, at_core as at_c, runner as r, runs as runs_r}
  open branch_at use {branch, stand}

  abbrev pub silent_machine : Machine
  silent_machine = record { cores = slice_set w.machine.cores c z.core; links = w.machine.links; trace = noted w.machine.trace None }

  abbrev before : ThreadView
  before = record { core = a; world = x.state; hand = hand }

  -- the program does nothing
  abbrev nothing_told : Counted (of_kernel g.program)
  nothing_told = told_by g.program g.stimulus x [] x.state

  nothing_done : Goes g x nothing_told
  nothing_done = told_same g x [] x.state refl

  at_left : slice_get silent_machine.cores c ≡ Some z.core
  at_left = get_set_same w.machine.cores c a z.core at_c

  -- the view, with what the hand is
  view_is : (hand' : Option Acquired) → z.hand ≡ hand' → (P : ThreadView → Type 0) → P z →
      P (record { core = z.core; world = x.state; hand = hand' })
  view_is hand' e P h = subst (λ k. P (record { core = z.core; world = x.state; hand = k })) e
      (subst (λ v. P (record { core = z.core; world = v; hand = z.hand })) silent.world h)

  by_roles : (hand' : Option Acquired) → z.hand ≡ hand' → (who' : Roles) (moved : ℕ → Bool) → SilentRoles g who who' c t r hand hand' a z.core branch moved → (AreNamed g who w x → AreNamed g who' (watched_after w (Step c t) silent_machine) nothing_told) →
      Follows g none_rests who w x (watched_after w (Step c t) silent_machine)
  by_roles hand' e who' moved roles named =
      silent_answered branch_at z.core hand' alive calm silent.on (view_is hand' e (Guarantee g r before) silent.guarantee) silent.roots
      silent.channel_ends who' moved roles left few
      (view_is hand' e (ProgressBy g r false branch.items branch.mode left) by) named

  by_change : HandChange g r before z → Follows g none_rests who w x (watched_after w (Step c t) silent_machine)
  by_change (keeps e syncs same) =
      by_roles hand e who (λ u. only_thread t u || is_held (held_in hand) u)
      (keeps_roles thread_at branch stand.in_hand z silent.on silent.guarantee e syncs same)
      (λ names. keeps_linked g none_rests who w x st names silent_machine c t before z at_c at_left r nothing_told nothing_done hand runs_r syncs silent.guarantee.as_many same)
  by_change (gets_sync h n e none free taken with_it same) =
      by_roles (Some (with_sync h n)) with_it (with_role who c t (used_by r (Some (with_sync h n)))) (only_thread t)
      (gets_sync_roles thread_at branch stand.in_hand z silent.on silent.guarantee h n e none free taken with_it same)
      (λ names. gets_sync_linked g none_rests who w x st names silent_machine c t before z at_c at_left r nothing_told nothing_done h n (runs_r ∙ ap (used_by r) e) none free taken silent.guarantee.as_many same)
  by_change (gets_thread h n v x' e synced lacks next there syncs with_it tied others) =
      by_roles (Some (with_thread_got h v)) with_it
      (who_more thread_at branch stand.in_hand z silent.on silent.guarantee h n v x' e synced lacks next there syncs tied others)
      (λ u. only_thread t u || only_thread v u)
      (gets_thread_roles thread_at branch stand.in_hand z silent.on silent.guarantee h n v x' e synced lacks next there syncs tied others)
      (λ names. more_named thread_at branch stand.in_hand z silent.on silent.guarantee h n v x' e synced lacks next there syncs tied others
      names silent_machine at_left nothing_told nothing_done)

  pub silent_followed : Follows g none_rests who w x (watched_after w (Step c t) silent_machine)
  silent_followed = by_change silent.hand
