-- A root's branch ends by a step of its own, and its thread leaves its place: it is free.
use Rattle.std.proofs.Common.{◌≡◌, ℕ, ◌≤◌, ◌≢◌, ◌⊎◌, inl, inr, [], List, Option, Some, None, refl, sym, ap, ◌∙◌, subst, ⊎_elim, eq-eqb}
use Rattle.std.specs.Prelude.{true, false, slice_get}
use Rattle.std.proofs.lemmas.Bool.{eqb-true}
use Rattle.xs_instr.specs.Machine.{noted}
use Rattle.xc_disjoint.specs.Needs.{threads_on}
use Rattle.xc_meaning.specs.Runs.{acts_all}
use Rattle.xc_meaning.specs.States.Branches.{Branch, has_ended}
use Rattle.xc_meaning.specs.States.Worlds.{Action}
use Rattle.xl_par.specs.Acquired.{Acquired, IsAmong}
use Rattle.xr_match.specs.Lives.{Watched}
use Rattle.xr_simulation.specs.Parents.{branches_of}
use Rattle.xr_simulation.specs.Roles.{Roles, own_branches, unused, used_by}
use Rattle.xr_simulation.specs.Runners.{Runner}
use Rattle.xr_simulation.specs.ThreadViews.{giving_back}
use Rattle.xr_simulation.specs.MatchStates.{AreLoose, IsRun, ThreadRel, none_rests}
use Rattle.xr_simulation.specs.Transfers.{Transfer}
use Rattle.xr_simulation.specs.NextStep.{IsFree}
use Rattle.xr_simulation.proofs.RelyGuarantee.Holding.{loose_behind}
use Rattle.xr_simulation.proofs.Relation.Moments.{Moment, ThreadAt}
use Rattle.xr_simulation.proofs.Relation.CoreSteps.{Effect, laid_at, same_runner}
use Rattle.xr_simulation.proofs.Lives.Links.{leaves_linked}
use Rattle.xr_simulation.proofs.OwnSteps.Events.{OwnStep, all_acted, at_left, branch_cases, core_is, leaves_loose, only_thread, others_there, others_used, own_effect, own_far_roots, own_made, own_placed, own_roots, same_role, thread_is}
use Rattle.xr_simulation.proofs.Relation.Reserves.{GiveAsBefore, reserves_behind, reserves_of_others}
use Rattle.xr_simulation.proofs.Relation.SeatChanges.{roles_leave}
use Rattle.xr_simulation.proofs.Relation.Seats.{role_cases, role_far, role_here, with_role}
use Rattle.xr_simulation.proofs.Relation.Lasting.{Follows, told_by}
use Rattle.xr_simulation.proofs.Relation.Events.{answered, clocks_still, far_steps_still, has_stepped, steps_still, watched}
use Rattle.xr_simulation.proofs.Relation.Usage.{used_leave}
use Rattle.xr_simulation.proofs.Channels.Wiring.{TransfersAsBefore, wired_still}

module _ {moment : Moment none_rests} (thread_at : ThreadAt moment None)
    (e : OwnStep moment.setting thread_at.runner thread_at.core thread_at.state moment.told.state)
    (tie : thread_at.runner.tie ≡ None) (parents : thread_at.runner.parents ≡ []) (over : has_ended e.next.mode ≡ true)
    (free : IsFree (slice_get e.left.threads thread_at.runner.thread)) where
  open moment use {setting as g, roles as who, watched as w, told as x, standing as st}
  open thread_at use {core as c, thread as t, state as a, at_core as at_c, runner as r, runs as runs_r}

  abbrev piece : List Action
  piece = e.piece

  abbrev effect : Effect g who c t r None (only_thread t) a e.left x.state e.world
  effect = own_effect thread_at e

  acted : acts_all g.program g.stimulus (Some x.state) piece ≡ Some e.world
  acted = all_acted thread_at e

  abbrev who_off : Roles
  who_off = with_role who c t unused

  before_off : (d u : ℕ) (i : Runner) (other : Option Acquired) → who_off d u ≡ used_by i other → who d u ≡ used_by i other
  before_off d u i other at =
      ⊎_elim
      (λ here. let both : unused ≡ used_by i other = sym here.2 ∙ at in cc)
      (λ there. sym there.1 ∙ at)
      (role_cases who c t unused d u)

  still_off : (d u : ℕ) (i : Runner) (other : Option Acquired) → who d u ≡ used_by i other → (r ≡ i) ⊎ (who_off d u ≡ used_by i other)
  still_off d u i other at =
      ⊎_elim
      (λ here. inl (same_runner r i None other (sym runs_r ∙ sym (ap (λ k. who k u) here.0 ∙ ap (who c) here.1) ∙ at)))
      (λ there. inr (there.1 ∙ at))
      (role_cases who c t unused d u)

  loose_off : 1 ≤ threads_on g.program c → AreLoose g who_off c e.left e.world
  loose_off some =
      loose_behind g who who_off c a e.left x.state e.world r (core_is thread_at e) (laid_at moment c t r None runs_r)
      (st.loose c a at_c some) (leaves_loose thread_at e) e.holds e.ports
      (λ v nobody no u i other at. ⊎_elim (λ (same : r ≡ i). subst (λ (k : Runner). k.footprint.changes v ≡ false) same no) (λ now. nobody u i other now) (still_off c u i other at))
      (λ v wanted. inl (record { thread = wanted.thread; runner = wanted.runner; hand = wanted.hand; runs = before_off c wanted.thread wanted.runner wanted.hand wanted.runs; parent = wanted.parent; waits = wanted.waits; uses = wanted.uses }))
      (λ q nobody no u i other at. ⊎_elim (λ (same : r ≡ i). subst (λ (k : Runner). k.footprint.ports q ≡ false) same no) (λ now. nobody u i other now) (still_off c u i other at))

  only_own : (n : ℕ) → IsAmong (own_branches r) n → n ≡ r.branch
  only_own n (inl f) = f
  only_own n (inr m) = absurd (subst (λ ps. IsAmong (branches_of ps) n) parents m)

  run_off : (n : ℕ) (branch : Branch) → slice_get e.world.branches n ≡ Some branch → has_ended branch.mode ≡ false → IsRun who_off n
  run_off n branch there on =
      ⊎_elim
      (λ (h : (n ≡ r.branch) × (branch ≡ e.next)). absurd (true_false (sym over ∙ ap (λ (b : Branch). has_ended b.mode) (sym h.1) ∙ on)))
      (λ (h : (n ≢ r.branch) × (slice_get x.state.branches n ≡ Some branch)).
      let q = st.run n branch h.1 on in
      ⊎_elim
      (λ (same : r ≡ q.runner). absurd (h.0 (only_own n (subst (λ (k : Runner). IsAmong (own_branches k) n) (sym same) q.branch))))
      (λ now. record { core = q.core; thread = q.thread; runner = q.runner; hand = q.hand; runs = now; branch = q.branch })
      (still_off q.core q.thread q.runner q.hand q.runs))
      (branch_cases thread_at e n branch there)
    where
      true_false : true ≡ false → ⊥
      true_false f = cc

  gives_off : GiveAsBefore who who_off
  gives_off = record { before = λ d u n i at. (i, n, before_off d u i (giving_back n) at, refl) }

  abbrev pub watched_off : Watched
  watched_off = watched thread_at (only_thread t) (eq-eqb t t refl) e.left e.world effect e.made

  -- it was in no transfer
  off_transfers : r.transfer ≡ None → TransfersAsBefore who who_off
  off_transfers none = record {
    before = λ d u i other transfer at its. (i, other, before_off d u i other at, its);
    still = λ d u i other transfer at its.
        ⊎_elim
        (λ (same : r ≡ i). absurd (none_some transfer (sym none ∙ ap (λ (k : Runner). k.transfer) same ∙ its)))
        (λ now. (i, other, now, its))
        (still_off d u i other at);
  }
    where
      none_some : (transfer : Transfer) → ◌≡◌ {A = Option Transfer} None (Some transfer) → ⊥
      none_some transfer f = cc

  pub leaves_answered : r.transfer ≡ None → e.left.ends ≡ a.ends → e.world.inboxes ≡ x.state.inboxes →
      Follows g none_rests who w x watched_off
  leaves_answered none ends boxes =
      let o = only_thread t in
      let self = eq-eqb t t refl in
      record {
        who = who_off;
        piece = piece;
        world = e.world;
        acted = acted;
        standing = answered thread_at o self e.left e.world effect none_rests who_off watched_off piece
            (has_stepped thread_at o self e.left e.world effect e.made e.guarantee.sizes)
            (record {
              acted = acted;
              clocks = clocks_still thread_at o self e.left e.world effect e.made;
              trace = ap (λ l. noted l e.made) st.trace ∙ sym e.is_next.trace;
              roles = roles_leave g who c t st.roles r runs_r tie parents;
              reserves = reserves_of_others g who e.world (reserves_behind g who x.state st.lawful st.reserves piece e.world acted) who_off gives_off;
              used = used_leave g who c t st.roles r runs_r parents a e.left (st.used c a at_c) (others_used thread_at e) e.syncs
                  (subst (λ k. IsFree (slice_get e.left.threads k)) (thread_is thread_at e) free);
              same_role = same_role thread_at e unused;
              far_role = λ d u ne. role_far who c t unused d u ne;
              rests = λ u m none. none;
              far_rests = λ d u ne none. none;
              steps = λ u m. steps_still thread_at o self e.left e.world effect e.made u m;
              far_steps = λ d u ne. far_steps_still thread_at o self e.left e.world effect e.made d u ne;
              stand = λ u m.
                  let at : u ≡ t = eqb-true u t m in
                  let actions = (told_by g.program g.stimulus x piece e.world).actions in
                  subst (ThreadRel g false e.left e.world (watched_off.lives c u) actions) (sym (ap (who_off c) at ∙ role_here who c t unused)) tt;
              wired = wired_still g who who_off w.machine watched_off.machine c a e.left x.state e.world (off_transfers none) at_c refl refl
                  ends boxes st.wired;
              alone = λ u i hand transfer m at its.
                  let both : unused ≡ used_by i hand = sym (role_here who c t unused) ∙ ap (who_off c) (sym (eqb-true u t m)) ∙ at in
                  cc;
              loose = loose_off;
              roots = own_roots thread_at e;
              far_roots = own_far_roots thread_at e;
              placed = own_placed thread_at e;
              run = run_off;
              made = own_made thread_at e;
            });
        named = λ names. leaves_linked g none_rests who w x st names watched_off.machine c t a e.left at_c (at_left thread_at e) r runs_r
            e.piece e.world e.next e.branch e.paid e.known e.birth e.is_next.branches e.syncs (others_there thread_at e);
      }
