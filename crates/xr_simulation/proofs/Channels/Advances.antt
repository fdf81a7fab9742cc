-- A thread takes a step of a transfer for which the program does nothing: it is in another phase of it, or in none. Tokens and credits may go
-- on links with it.
use Rattle.std.proofs.Common.{◌≡◌, ℕ, ◌≤◌, ◌≢◌, inl, inr, [], length, Option, Some, None, refl, sym, ap, ◌∙◌, subst, ⊎_elim, eq-eqb}
use Rattle.std.specs.Prelude.{Bool, true, false, List, ◌∷◌, slice_get}
use Rattle.std.proofs.lemmas.Bool.{eqb-true, ne_eqb}
use Rattle.xs_instr.specs.declared.state.CoreState.{CoreState}
use Rattle.xs_instr.specs.declared.state.Sent.{Sent}
use Rattle.xs_instr.specs.declared.state.Thread.{Thread}
use Rattle.xc_disjoint.specs.Needs.{threads_on}
use Rattle.xc_meaning.specs.States.Branches.{Branch, has_ended}
use Rattle.xc_meaning.specs.States.Worlds.{World}
use Rattle.xl_expr.proofs.Lists.{get_set_same}
use Rattle.xl_par.specs.Acquired.{Acquired, IsAmong}
use Rattle.xr_match.specs.Lives.{Watched}
use Rattle.xr_match.specs.Systems.{SomeIs}
use Rattle.xr_simulation.specs.Roles.{IsParent, Roles, got_by, own_branches, used_by}
use Rattle.xr_simulation.specs.Runners.{Setting, Runner}
use Rattle.xr_simulation.specs.ThreadViews.{Guarantee, giving_back}
use Rattle.xr_simulation.specs.MatchStates.{AreLoose, IsRun, RunsBranch, ThreadRel, none_rests}
use Rattle.xr_simulation.specs.Transfers.{Transfer}
use Rattle.xr_simulation.specs.Wired.{AreWired, HasAlone}
use Rattle.xr_simulation.proofs.Relation.Moments.{Moment, ThreadAt}
use Rattle.xr_simulation.proofs.Relation.CoreSteps.{Effect, laid_at, same_hand, same_runner}
use Rattle.xr_simulation.proofs.Lives.Links.{own_linked, told_same}
use Rattle.xr_simulation.proofs.OwnSteps.Events.{only_thread}
use Rattle.xr_simulation.proofs.Relation.Pools.{num_is}
use Rattle.xr_simulation.proofs.Relation.Reserves.{GiveAsBefore, reserves_of_others}
use Rattle.xr_simulation.proofs.Relation.Seats.{IsSeated, role_cases, role_far, role_here, role_other, roles_go_on, with_role}
use Rattle.xr_simulation.proofs.RelyGuarantee.SilentSteps.{loose_still}
use Rattle.xr_simulation.proofs.Relation.Lasting.{Follows, told_by}
use Rattle.xr_simulation.proofs.Relation.Events.{answered, clocks_still, far_steps_as_long, has_sent, steps_as_long, watched_sending}
use Rattle.xr_simulation.proofs.Relation.Usage.{OthersUsed, used_on}

-- What such a step leaves of the core: all but the thread and the ends of channels.
pub record Advance (g : Setting) (r : Runner) (a left : CoreState) : Type 0 where
  pub guarantee : (x : World) → Guarantee g r (record { core = a; world = x; hand = None }) (record { core = left; world = x; hand = None })
  pub syncs : left.syncs ≡ a.syncs
  pub roots : left.roots ≡ a.roots
  pub tied : (thread : Thread) → slice_get left.threads r.thread ≡ Some thread → thread.tie ≡ r.tie

module _ {moment : Moment none_rests} (thread_at : ThreadAt moment None)
    (left : CoreState) (e : Advance moment.setting thread_at.runner thread_at.state left) (next : Option Transfer) (sent : List Sent) where
  open moment use {setting as g, image as is, roles as who, watched as w, told as x, standing as st}
  open thread_at use {core as c, thread as t, state as a, at_core as at_c, runner as r, runs as runs_r}

  thread_is : r.thread ≡ t
  thread_is = st.roles.thread c t r None runs_r

  not_t : (u : ℕ) → only_thread t u ≡ false → u ≢ t
  not_t u m f = let both : true ≡ false = sym (eq-eqb u t f) ∙ m in cc

  others_there : (u : ℕ) → u ≢ t → slice_get left.threads u ≡ slice_get a.threads u
  others_there u ne = (e.guarantee x.state).others u (λ f. ne (f ∙ thread_is)) (λ k. k)

  pub effect : Effect g who c t r None (only_thread t) a left x.state x.state
  effect = record {
    clock = (e.guarantee x.state).clock;
    sizes = (e.guarantee x.state).sizes;
    threads = λ u m. others_there u (not_t u m);
    not_held = λ u s got ne. ne_eqb u t (λ f. got_not_run s (sym got ∙ ap (who c) f ∙ runs_r));
    ties = λ u n thread m there tied.
        inr (sym (e.tied thread (ap (slice_get left.threads) (thread_is ∙ sym (eqb-true u t m)) ∙ there)) ∙ num_is thread.tie n tied);
    syncs = λ n ne taken. ap (λ l. slice_get l n) e.syncs ∙ taken;
    words = (e.guarantee x.state).words;
    resources = (e.guarantee x.state).resources;
    clocks = refl;
    branches = λ n branch ne there. there;
    store = λ v f. refl;
  }
    where
      got_not_run : (s : ℕ) → got_by s ≡ used_by r None → ⊥
      got_not_run s f = cc

  -- the thread's runner is in the other phase
  abbrev pub s : Runner
  s = record r { transfer = next }

  abbrev pub who_next : Roles
  who_next = with_role who c t (used_by s None)

  abbrev pub watched_next : Watched
  watched_next = watched_sending thread_at (only_thread t) (eq-eqb t t refl) left x.state effect None sent

  seated : IsSeated s r
  seated = record {
    core = refl;
    thread = refl;
    tie = refl;
    family = refl;
    block = refl;
    stack = refl;
    outermost_is = refl;
    syncs = refl;
    there = λ p n f h. h;
    still = λ p n f h. h;
  }

  -- each runner was there, and is there still, but for the transfer
  record IsAlike (i j : Runner) : Type 0 where
    parents : i.parents ≡ j.parents
    branches : own_branches i ≡ own_branches j
    footprint : i.footprint ≡ j.footprint

  alike_cases : (d u : ℕ) (i : Runner) (other : Option Acquired) → who_next d u ≡ used_by i other → (j : Runner) × (who d u ≡ used_by j other) × IsAlike j i
  alike_cases d u i other at =
      ⊎_elim
      (λ here.
      let own : used_by s None ≡ used_by i other = sym here.2 ∙ at in
      let same : s ≡ i = same_runner s i None other own in
      let hand : None ≡ other = same_hand s i None other own in (
        r,
        ap (λ k. who k u) here.0 ∙ ap (who c) here.1 ∙ runs_r ∙ ap (used_by r) hand,
        record { parents = ap (λ (k : Runner). k.parents) same; branches = ap own_branches same; footprint = ap (λ (k : Runner). k.footprint) same },
      ))
      (λ there. (i, sym there.1 ∙ at, record { parents = refl; branches = refl; footprint = refl }))
      (role_cases who c t (used_by s None) d u)

  alike_still : (d u : ℕ) (i : Runner) (other : Option Acquired) → who d u ≡ used_by i other → (j : Runner) × (who_next d u ≡ used_by j other) × IsAlike j i
  alike_still d u i other at =
      ⊎_elim
      (λ here.
      let own : used_by r None ≡ used_by i other = sym runs_r ∙ sym (ap (λ k. who k u) here.0 ∙ ap (who c) here.1) ∙ at in
      let same : r ≡ i = same_runner r i None other own in
      let hand : None ≡ other = same_hand r i None other own in (
        s,
        here.2 ∙ ap (used_by s) hand,
        record { parents = ap (λ (k : Runner). k.parents) same; branches = ap own_branches same; footprint = ap (λ (k : Runner). k.footprint) same },
      ))
      (λ there. (i, there.1 ∙ at, record { parents = refl; branches = refl; footprint = refl }))
      (role_cases who c t (used_by s None) d u)

  loose : 1 ≤ threads_on g.program c → AreLoose g who_next c left x.state
  loose some =
      loose_still g who who_next c a left x.state x.state r (st.roles.core c t r None runs_r) (laid_at moment c t r None runs_r)
      (st.loose c a at_c some) (record
      { words = (e.guarantee x.state).words; resources = (e.guarantee x.state).resources; store = λ v f. refl })
      (λ v nobody. (nobody t s None (role_here who c t (used_by s None)), λ u i other at. let k = alike_still c u i other at in ap (λ f. f.changes v) (sym k.2.footprint) ∙ nobody u k.0 other k.1))
      (λ v want.
      let k = alike_cases c want.thread want.runner want.hand want.runs in
      record { thread = want.thread; runner = k.0; hand = want.hand; runs = k.1; parent = want.parent; waits = subst (λ ps. IsParent ps want.parent) (sym k.2.parents) want.waits; uses = want.uses })
      (λ q nobody. (nobody t s None (role_here who c t (used_by s None)), λ u i other at. let k = alike_still c u i other at in ap (λ f. f.ports q) (sym k.2.footprint) ∙ nobody u k.0 other k.1))

  run : (n : ℕ) (b : Branch) → slice_get x.state.branches n ≡ Some b → has_ended b.mode ≡ false → IsRun who_next n
  run n b there goes_on =
      let q = st.run n b there goes_on in
      let k = alike_still q.core q.thread q.runner q.hand q.runs in
      record { core = q.core; thread = q.thread; runner = k.0; hand = q.hand; runs = k.1; branch = subst (λ l. IsAmong l n) (sym k.2.branches) q.branch }

  gives : GiveAsBefore who who_next
  gives = record { before = λ d u n i at. let k = alike_cases d u i (giving_back n) at in (k.0, n, k.1, first_of_both k.0 i k.2.branches) }
    where
      head : List ℕ → ℕ
      head [] = 0
      head (b ∷ bs) = b

      first_of_both : (i j : Runner) → own_branches i ≡ own_branches j → i.branch ≡ j.branch
      first_of_both i j f = ap head f

  others_used : OthersUsed g who c t st.roles r None runs_r a left (st.used c a at_c)
  others_used = record {
    as_many = (e.guarantee x.state).as_many;
    as_many_syncs = ap length e.syncs;
    alike = λ u ne. record { by = λ thread there. (thread, others_there u ne ∙ there, refl, refl, refl) };
    syncs = λ n ne taken. ap (λ l. slice_get l n) e.syncs ∙ taken;
  }

  module _ (may_rest' : (core thread : ℕ) → Bool) (branch : Branch) (known : slice_get x.state.branches r.branch ≡ Some branch)
      (wired : AreWired g who_next watched_next.machine x.state)
      (alone : (transfer : Transfer) → next ≡ Some transfer → HasAlone x.state.branches transfer.channel transfer.side r.branch)
      (stand : RunsBranch g s (may_rest' c t) None left x.state (watched_next.lives c t) (told_by g.program g.stimulus x [] x.state).actions branch) where
    abbrev more : ℕ → ℕ
    more = (told_by g.program g.stimulus x [] x.state).actions

    own_stand : (u : ℕ) → only_thread t u ≡ true → ThreadRel g (may_rest' c u) left x.state (watched_next.lives c u) more (who_next c u)
    own_stand u m =
        subst (λ k. ThreadRel g (may_rest' c k) left x.state (watched_next.lives c k) more (who_next c k)) (sym (eqb-true u t m))
        (subst (ThreadRel g (may_rest' c t) left x.state (watched_next.lives c t) more) (sym (role_here who c t (used_by s None)))
        (subst (λ o. SomeIs o (RunsBranch g s (may_rest' c t) None left x.state (watched_next.lives c t) more)) (sym known) stand))

    own_alone : (u : ℕ) (i : Runner) (hand : Option Acquired) (transfer : Transfer) → only_thread t u ≡ true → who_next c u ≡ used_by i hand → i.transfer ≡ Some transfer → HasAlone x.state.branches transfer.channel transfer.side i.branch
    own_alone u i hand transfer m at its =
        let same : s ≡ i = same_runner s i None hand (sym (role_here who c t (used_by s None)) ∙ ap (who_next c) (sym (eqb-true u t m)) ∙ at) in
        subst (λ (k : Runner). HasAlone x.state.branches transfer.channel transfer.side k.branch) same (alone transfer (ap (λ (k : Runner). k.transfer) same ∙ its))

    -- the two sides stand so again, behind no action of the program's
    pub advances : Follows g may_rest' who w x watched_next
    advances =
        let o = only_thread t in
        let self = eq-eqb t t refl in
        record {
          who = who_next;
          piece = [];
          world = x.state;
          acted = refl;
          standing = answered thread_at o self left x.state effect may_rest' who_next watched_next []
              (has_sent thread_at o self left x.state effect None sent (e.guarantee x.state).sizes)
              (record {
                acted = refl;
                clocks = clocks_still thread_at o self left x.state effect None;
                trace = st.trace;
                roles = roles_go_on g who c t st.roles r None runs_r s None (record { seated = seated; held = refl; sync = λ n f. inl f; branches = λ n m. inl m });
                reserves = reserves_of_others g who x.state st.reserves who_next gives;
                used = used_on g who c t st.roles r None runs_r a left (st.used c a at_c) s None others_used
                    (λ n taken. inr (ap (λ l. slice_get l n) (sym e.syncs) ∙ taken, λ owns. owns))
                    (λ n owns. ap (λ l. slice_get l n) e.syncs ∙ (st.used c a at_c).owned t n r None runs_r owns)
                    (λ n u f m. absurd m);
                same_role = λ u m. role_other who c t (used_by s None) u (not_t u m);
                far_role = λ d u ne. role_far who c t (used_by s None) d u ne;
                rests = λ u m none. absurd (false_true none);
                far_rests = λ d u ne none. absurd (false_true none);
                steps = λ u m. steps_as_long thread_at o self left x.state effect None sent u m;
                far_steps = λ d u ne. far_steps_as_long thread_at o self left x.state effect None sent d u ne;
                stand = own_stand;
                loose = loose;
                roots = e.roots ∙ st.roots c a at_c;
                far_roots = λ d ne. refl;
                placed = st.placed;
                run = run;
                made = st.made;
                wired = wired;
                alone = own_alone;
              });
          named = λ names.
              own_linked g none_rests who w x st names watched_next.machine c t a left at_c (get_set_same w.machine.cores c a left at_c) r s runs_r refl
              (told_by g.program g.stimulus x [] x.state) (told_same g x [] x.state refl) e.syncs others_there;
        }
      where
        false_true : false ≡ true → ⊥
        false_true f = cc
