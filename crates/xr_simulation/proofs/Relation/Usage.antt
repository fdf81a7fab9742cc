-- The threads and synchronisers of a core are used as the roles say, behind an event.
use Rattle.std.proofs.Common.{◌≡◌, ℕ, ◌<◌, ◌≢◌, ◌⊎◌, inl, inr, [], length, Option, Some, None, refl, sym, ap, ◌∙◌, subst, ⊎_elim}
use Rattle.std.specs.Prelude.{true, slice_get}
use Rattle.std.proofs.lemmas.Bool.{cases_eq}
use Rattle.std.proofs.lemmas.Option.{same_Some}
use Rattle.xs_instr.specs.declared.state.CoreState.{CoreState}
use Rattle.xs_instr.specs.declared.state.Thread.{Thread}
use Rattle.xc_disjoint.specs.Needs.{threads_on}
use Rattle.xl_par.specs.Acquired.{Acquired, IsAmong, with_thread_got}
use Rattle.xr_simulation.specs.Parents.{syncs_of}
use Rattle.xr_simulation.specs.Roles.{AreRoles, AreUsedSo, Role, Roles, got_by, unused, used_by}
use Rattle.xr_simulation.specs.Runners.{Setting, Runner}
use Rattle.xr_simulation.specs.ThreadViews.{Owns, held_in, sync_in}
use Rattle.xr_simulation.specs.NextStep.{IsFree, IsFreeThread, IsTiedThread, IsWaitingTied}
use Rattle.xr_simulation.proofs.Relation.CoreSteps.{same_hand, same_runner}
use Rattle.xr_simulation.proofs.Relation.SeatChanges.{Place, gets, got_same, new, old, own, own_now, place}
use Rattle.xr_simulation.proofs.Relation.Seats.{role_cases, role_here, with_role}

-- a thread is used as it was: the same mode, the same tie, the same event bit
pub record IsUsedAlike (a b : CoreState) (u : ℕ) : Type 0 where
  pub by : (x : Thread) → slice_get a.threads u ≡ Some x →
      (x' : Thread) × (slice_get b.threads u ≡ Some x') × (x'.mode ≡ x.mode) × (x'.tie ≡ x.tie) × (x'.event_bit ≡ x.event_bit)

-- one that is free is so still
free_by : (a b : CoreState) (u : ℕ) → IsUsedAlike a b u → (o : Option Thread) → slice_get a.threads u ≡ o → IsFree o → IsFree (slice_get b.threads u)
free_by a b u alike None e h = absurd h
free_by a b u alike (Some x) e h =
    let k = alike.by x e in
    let free : IsFreeThread k.0 = record { unused = k.2 ∙ h.unused; no_events = k.4 ∙ h.no_events; untied = k.3 ∙ h.untied } in
    subst IsFree (sym k.1) free

pub free_still : (a b : CoreState) (u : ℕ) → IsUsedAlike a b u → IsFree (slice_get a.threads u) → IsFree (slice_get b.threads u)
free_still a b u alike h = free_by a b u alike (slice_get a.threads u) refl h

-- and one that waits with a tie
waits_by : (a b : CoreState) (u n : ℕ) → IsUsedAlike a b u → (o : Option Thread) → slice_get a.threads u ≡ o → IsWaitingTied n o → IsWaitingTied n (slice_get b.threads u)
waits_by a b u n alike None e h = absurd h
waits_by a b u n alike (Some x) e h =
    let k = alike.by x e in
    let waits : IsTiedThread n k.0 = record { waits = k.2 ∙ h.waits; no_events = k.4 ∙ h.no_events; tied = k.3 ∙ h.tied } in
    subst (IsWaitingTied n) (sym k.1) waits

pub waits_still : (a b : CoreState) (u n : ℕ) → IsUsedAlike a b u → IsWaitingTied n (slice_get a.threads u) → IsWaitingTied n (slice_get b.threads u)
waits_still a b u n alike h = waits_by a b u n alike (slice_get a.threads u) refl h

module _ (g : Setting) (who : Roles) (c t : ℕ) (roles : AreRoles g who) (r : Runner) (hand : Option Acquired) (was : who c t ≡ used_by r hand) (a b : CoreState) (used : AreUsedSo who c a) where
  -- the threads and synchronisers of others are used as they were
  pub record OthersUsed : Type 0 where
    pub as_many : length b.threads ≡ length a.threads
    pub as_many_syncs : length b.syncs ≡ length a.syncs
    pub alike : (u : ℕ) → u ≢ t → IsUsedAlike a b u
    pub syncs : (n : ℕ) → (Owns r hand n → ⊥) → slice_get a.syncs n ≡ Some true → slice_get b.syncs n ≡ Some true

  -- what another thread owns is taken still
  pub owned_still : OthersUsed → (u n : ℕ) (s : Runner) (other : Option Acquired) → u ≢ t → who c u ≡ used_by s other → Owns s other n → slice_get b.syncs n ≡ Some true
  owned_still others u n s other ne is owns =
      others.syncs n (λ owns_r. ne (roles.owner c t u n r s hand other was is owns_r owns)) (used.owned u n s other is owns)

  -- the runner goes on with what it has in hand
  module _ (s : Runner) (hand' : Option Acquired) (others : OthersUsed) (taken_now : (n : ℕ) → slice_get b.syncs n ≡ Some true → Owns s hand' n ⊎ ((slice_get a.syncs n ≡ Some true) × (Owns r hand n → Owns s hand' n))) (owned_now : (n : ℕ) → Owns s hand' n → slice_get b.syncs n ≡ Some true) (sync_now : (n u : ℕ) → sync_in hand' ≡ Some n → IsAmong (held_in hand) u → sync_in hand ≡ Some n) where
    abbrev who' : Roles
    who' = with_role who c t (used_by s hand')

    -- a role that is no runner's was there before
    not_here : (u : ℕ) (role : Role) → who' c u ≡ role → role ≢ used_by s hand' → (u ≢ t) × (who c u ≡ role)
    not_here u role is ne =
        ⊎_elim
        (λ here. absurd (ne (sym is ∙ here.2)))
        (λ other. ((λ e. other.0 (refl, e)), sym other.1 ∙ is))
        (role_cases who c t (used_by s hand') c u)

    taken_by : (n : ℕ) → slice_get b.syncs n ≡ Some true → (slice_get a.syncs n ≡ Some true) × (Owns r hand n → Owns s hand' n) → (u : ℕ) × (i : Runner) × (other : Option Acquired) × (who' c u ≡ used_by i other) × Owns i other n
    taken_by n is (before, on) =
        let k = used.taken n before in
        ⊎_elim
        (λ here.
        let both : used_by r hand ≡ used_by k.1 k.2 = sym was ∙ ap (who c) (sym here.1) ∙ k.3 in
        let owns : Owns r hand n = subst (λ i. Owns i hand n) (sym (same_runner r k.1 hand k.2 both)) (subst (λ h. Owns k.1 h n) (sym (same_hand r k.1 hand k.2 both)) k.4) in
        (t, s, hand', role_here who c t (used_by s hand'), on owns))
        (λ there. (k.0, k.1, k.2, there.1 ∙ k.3, k.4))
        (role_cases who c t (used_by s hand') c k.0)

    owned_by : (u n : ℕ) (i : Runner) (other : Option Acquired) → who' c u ≡ used_by i other → Owns i other n → slice_get b.syncs n ≡ Some true
    owned_by u n i other is owns =
        ⊎_elim
        (λ here.
        let both : used_by s hand' ≡ used_by i other = sym here.2 ∙ is in
        owned_now n (subst (λ k. Owns k hand' n) (sym (same_runner s i hand' other both)) (subst (λ h. Owns i h n) (sym (same_hand s i hand' other both)) owns)))
        (λ there. owned_still others u n i other (λ e. there.0 (refl, e)) (sym there.1 ∙ is) owns)
        (role_cases who c t (used_by s hand') c u)

    got_by_hand : (u k n : ℕ) (i : Runner) (other : Option Acquired) → who' c u ≡ got_by k → who' c k ≡ used_by i other → sync_in other ≡ Some n → IsWaitingTied n (slice_get b.threads u)
    got_by_hand u k n i other is its sync =
        let old = not_here u (got_by k) is (λ e. got_runs k s hand' e) in
        waits_still a b u n (others.alike u old.0)
        (⊎_elim
        (λ here.
        let both : used_by s hand' ≡ used_by i other = sym here.2 ∙ its in
        let now : sync_in hand' ≡ Some n = ap sync_in (same_hand s i hand' other both) ∙ sync in
        let by_t : who c u ≡ got_by t = old.1 ∙ ap got_by here.1 in
        let h = roles.got c u t by_t in
        let hands = same_hand h.0 r h.1 hand (sym h.2 ∙ was) in
        used.got u t n r hand by_t was (sync_now n u now (subst (λ d. IsAmong (held_in d) u) hands h.3)))
        (λ there. used.got u k n i other old.1 (sym there.1 ∙ its) sync)
        (role_cases who c t (used_by s hand') c k))
      where
        got_runs : (k : ℕ) (s : Runner) (h : Option Acquired) → got_by k ≡ used_by s h → ⊥
        got_runs k s h e = cc

    unused_runs : unused ≡ used_by s hand' → ⊥
    unused_runs e = cc

    pub used_on : AreUsedSo who' c b
    used_on = record {
      threads = others.as_many ∙ used.threads;
      syncs = others.as_many_syncs ∙ used.syncs;
      unused = λ u few is. let old = not_here u unused is unused_runs in free_still a b u (others.alike u old.0) (used.unused u few old.1);
      got = λ u k n i other is its sync. got_by_hand u k n i other is its sync;
      taken = λ n is. ⊎_elim (λ (owns : Owns s hand' n). (t, s, hand', role_here who c t (used_by s hand'), owns)) (λ before. taken_by n is before) (taken_now n is);
      owned = λ u n i other is owns. owned_by u n i other is owns;
    }

-- A runner that has nothing leaves its place, and its thread is free.
module _ (g : Setting) (who : Roles) (c t : ℕ) (roles : AreRoles g who) (r : Runner) (was : who c t ≡ used_by r None) (parents : r.parents ≡ []) (a b : CoreState) (used : AreUsedSo who c a) (others : OthersUsed g who c t roles r None was a b used) (same_syncs : b.syncs ≡ a.syncs) (free : IsFree (slice_get b.threads t)) where
  owns_none : (n : ℕ) → Owns r None n → ⊥
  owns_none n (inl m) = subst (λ ps. IsAmong (syncs_of ps) n) parents m
  owns_none n (inr e) = let none : ◌≡◌ {A = Option ℕ} None (Some n) = e in cc

  in_use : (u : ℕ) (role : Role) → with_role who c t unused c u ≡ role → role ≢ unused → (u ≢ t) × (who c u ≡ role)
  in_use u role is ne =
      ⊎_elim
      (λ here. absurd (ne (sym is ∙ here.2)))
      (λ other. ((λ e. other.0 (refl, e)), sym other.1 ∙ is))
      (role_cases who c t unused c u)

  got_used : (k : ℕ) → got_by k ≢ unused
  got_used k e = cc

  runs_used : (s : Runner) (other : Option Acquired) → used_by s other ≢ unused
  runs_used s other e = cc

  pub used_leave : AreUsedSo (with_role who c t unused) c b
  used_leave = record {
    threads = others.as_many ∙ used.threads;
    syncs = others.as_many_syncs ∙ used.syncs;
    unused = λ u few is.
        ⊎_elim
        (λ here. subst (λ k. IsFree (slice_get b.threads k)) (sym here.1) free)
        (λ there. free_still a b u (others.alike u (λ e. there.0 (refl, e))) (used.unused u few (sym there.1 ∙ is)))
        (role_cases who c t unused c u);
    got = λ u k n i other is its sync.
        let old = in_use u (got_by k) is (got_used k) in
        let holder = in_use k (used_by i other) its (runs_used i other) in
        waits_still a b u n (others.alike u old.0) (used.got u k n i other old.1 holder.1 sync);
    taken = λ n is.
        let k = used.taken n (ap (λ l. slice_get l n) (sym same_syncs) ∙ is) in
        ⊎_elim
        (λ here.
        let both : used_by r None ≡ used_by k.1 k.2 = sym was ∙ ap (who c) (sym here.1) ∙ k.3 in
        absurd (owns_none n (subst (λ i. Owns i None n) (sym (same_runner r k.1 None k.2 both)) (subst (λ h. Owns k.1 h n) (sym (same_hand r k.1 None k.2 both)) k.4))))
        (λ there. (k.0, k.1, k.2, there.1 ∙ k.3, k.4))
        (role_cases who c t unused c k.0);
    owned = λ u n i other is owns. let old = in_use u (used_by i other) is (runs_used i other) in owned_still g who c t roles r None was a b used others u n i other old.0 old.1 owns;
  }

-- A runner gets a thread that was unused, which waits from now on and is tied to the runner's synchroniser.
module _ (g : Setting) (who : Roles) (c t v : ℕ) (roles : AreRoles g who) (r : Runner) (hand : Acquired) (was : who c t ≡ used_by r (Some hand)) (free : who c v ≡ unused) (few : v < 8) (inside : v < threads_on g.program c) (a b : CoreState) (used : AreUsedSo who c a) (n : ℕ) (sync : hand.sync ≡ Some n) where
  abbrev place_at : ℕ → Type 0
  place_at u = Place g who c t v roles r hand was free few inside c u

  abbrev more : Option Acquired
  more = Some (with_thread_got hand v)

  abbrev who_gets : Roles
  who_gets = gets g who c t v roles r hand was free few inside

  module _ (as_many : length b.threads ≡ length a.threads) (same_syncs : b.syncs ≡ a.syncs) (tied : IsWaitingTied n (slice_get b.threads v)) (others : (u : ℕ) → u ≢ t → u ≢ v → slice_get b.threads u ≡ slice_get a.threads u) where
    not_t : (u : ℕ) (role : Role) → who c u ≡ role → role ≢ used_by r (Some hand) → u ≢ t
    not_t u role is ne e = ne (sym is ∙ ap (who c) e ∙ was)

    not_v : (u : ℕ) (role : Role) → who c u ≡ role → role ≢ unused → u ≢ v
    not_v u role is ne e = ne (sym is ∙ ap (who c) e ∙ free)

    unused_runs_not : unused ≢ used_by r (Some hand)
    unused_runs_not e = cc

    got_runs_not : (k : ℕ) → got_by k ≢ used_by r (Some hand)
    got_runs_not k e = cc

    got_used_so : (k : ℕ) → got_by k ≢ unused
    got_used_so k e = cc

    free_now : (u : ℕ) → u < 8 → who_gets c u ≡ unused → place_at u → IsFree (slice_get b.threads u)
    free_now u lt is (own dc ut now old_is) = let both : used_by r more ≡ unused = sym now ∙ is in cc
    free_now u lt is (new dc uv now old_is) = let both : got_by t ≡ unused = sym now ∙ is in cc
    free_now u lt is (old same) = free_by_place (cases_eq u v)
      where
        free_by_place : (u ≡ v) ⊎ (u ≢ v) → IsFree (slice_get b.threads u)
        free_by_place (inl e) =
            let both : got_by t ≡ unused = sym (role_here (with_role who c t (used_by r more)) c v (got_by t)) ∙ ap (who_gets c) (sym e) ∙ is in cc
        free_by_place (inr ne) =
            let old_is : who c u ≡ unused = sym same ∙ is in
            subst IsFree (sym (others u (not_t u unused old_is unused_runs_not) ne)) (used.unused u lt old_is)

    -- who holds a thread held it, or it is the new one
    waits_now : (u k m : ℕ) (i : Runner) (other : Option Acquired) → who c u ≡ got_by k → who_gets c k ≡ used_by i other → sync_in other ≡ Some m → place_at k → IsWaitingTied m (slice_get a.threads u)
    waits_now u k m i other is its of_hand (own dc kt now old_is) =
        let same = same_hand r i more other (sym now ∙ its) in
        used.got u k m r (Some hand) is old_is (ap sync_in same ∙ of_hand)
    waits_now u k m i other is its of_hand (new dc kv now old_is) = let both : got_by t ≡ used_by i other = sym now ∙ its in cc
    waits_now u k m i other is its of_hand (old same) = used.got u k m i other is (sym same ∙ its) of_hand

    got_now : (u k m : ℕ) (i : Runner) (other : Option Acquired) → who_gets c u ≡ got_by k → who_gets c k ≡ used_by i other → sync_in other ≡ Some m → place_at u → IsWaitingTied m (slice_get b.threads u)
    got_now u k m i other is its of_hand (own dc ut now old_is) = let both : used_by r more ≡ got_by k = sym now ∙ is in cc
    got_now u k m i other is its of_hand (new dc uv now old_is) =
        let at : t ≡ k = got_same t k (sym now ∙ is) in
        let both : used_by r more ≡ used_by i other = sym (own_now g who c t v roles r hand was free few inside) ∙ ap (who_gets c) at ∙ its in
        let of_r : Some n ≡ Some m = sym sync ∙ ap sync_in (same_hand r i more other both) ∙ of_hand in
        subst (λ j. IsWaitingTied j (slice_get b.threads u)) (same_Some n m of_r) (subst (λ j. IsWaitingTied n (slice_get b.threads j)) (sym uv) tied)
    got_now u k m i other is its of_hand (old same) =
        let old_is : who c u ≡ got_by k = sym same ∙ is in
        subst (IsWaitingTied m) (sym (others u (not_t u (got_by k) old_is (got_runs_not k)) (not_v u (got_by k) old_is (got_used_so k))))
        (waits_now u k m i other old_is its of_hand (place g who c t v roles r hand was free few inside c k))

    taken_now : (m u : ℕ) (i : Runner) (other : Option Acquired) → who c u ≡ used_by i other → Owns i other m → place_at u → (k : ℕ) × (j : Runner) × (h : Option Acquired) × (who_gets c k ≡ used_by j h) × Owns j h m
    taken_now m u i other is owns (own dc ut now old_is) =
        let both : used_by r (Some hand) ≡ used_by i other = sym old_is ∙ is in
        (u, r, more, now, own_more m (subst (λ j. Owns j (Some hand) m) (sym (same_runner r i (Some hand) other both)) (subst (λ h. Owns i h m) (sym (same_hand r i (Some hand) other both)) owns)))
      where
        own_more : (m : ℕ) → Owns r (Some hand) m → Owns r more m
        own_more m (inl a) = inl a
        own_more m (inr e) = inr e
    taken_now m u i other is owns (new dc uv now old_is) = let both : unused ≡ used_by i other = sym old_is ∙ is in cc
    taken_now m u i other is owns (old same) = (u, i, other, same ∙ is, owns)

    owned_now : (u m : ℕ) (i : Runner) (other : Option Acquired) → who_gets c u ≡ used_by i other → Owns i other m → place_at u → slice_get a.syncs m ≡ Some true
    owned_now u m i other is owns (own dc ut now old_is) =
        let both : used_by r more ≡ used_by i other = sym now ∙ is in
        used.owned u m r (Some hand) old_is (own_less m (subst (λ j. Owns j more m) (sym (same_runner r i more other both)) (subst (λ h. Owns i h m) (sym (same_hand r i more other both)) owns)))
      where
        own_less : (m : ℕ) → Owns r more m → Owns r (Some hand) m
        own_less m (inl a) = inl a
        own_less m (inr e) = inr e
    owned_now u m i other is owns (new dc uv now old_is) = let both : got_by t ≡ used_by i other = sym now ∙ is in cc
    owned_now u m i other is owns (old same) = used.owned u m i other (sym same ∙ is) owns

    pub used_get : AreUsedSo who_gets c b
    used_get = record {
      threads = as_many ∙ used.threads;
      syncs = ap length same_syncs ∙ used.syncs;
      unused = λ u lt is. free_now u lt is (place g who c t v roles r hand was free few inside c u);
      got = λ u k m i other is its of_hand. got_now u k m i other is its of_hand (place g who c t v roles r hand was free few inside c u);
      taken = λ m is. let k = used.taken m (ap (λ l. slice_get l m) (sym same_syncs) ∙ is) in taken_now m k.0 k.1 k.2 k.3 k.4 (place g who c t v roles r hand was free few inside c k.0);
      owned = λ u m i other is owns. ap (λ l. slice_get l m) same_syncs ∙ owned_now u m i other is owns (place g who c t v roles r hand was free few inside c u);
    }
