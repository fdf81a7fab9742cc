-- A thread at rest: the machine does nothing, the program goes on by a piece, and the thread's runner is another one, with what it has in hand
-- then. All stand so again.
use Rattle.std.proofs.Common.{◌≡◌, ℕ, ◌<◌, ◌≤◌, ◌≢◌, ◌⊎◌, inl, inr, [], List, length, Option, Some, None, refl, sym, ap, ◌∙◌, subst, ⊎_elim, arith, eq-eqb}
use Rattle.std.proofs.lemmas.Bool.{eqb-true, ne_eqb}
use Rattle.std.proofs.lemmas.Option.{same_Some, slice_get_within}
use Rattle.std.specs.Prelude.{Bool, true, false, nat_eq, slice_get}
use Rattle.xs_instr.specs.declared.state.Thread.{Thread}
use Rattle.xc_disjoint.specs.Needs.{threads_on}
use Rattle.xc_kernel.specs.Eval.{words_of}
use Rattle.xc_kernel.specs.Things.{variable}
use Rattle.xc_meaning.specs.Runs.{acts_all}
use Rattle.xc_meaning.specs.States.Branches.{Branch, has_ended}
use Rattle.xc_meaning.specs.States.Worlds.{Action, World}
use Rattle.xc_meaning.specs.Uses.{by_items}
use Rattle.xl_par.specs.Acquired.{Acquired, IsAmong}
use Rattle.xr_match.specs.Systems.{SomeIs}
use Rattle.xr_simulation.specs.Parents.{Parent, branches_of}
use Rattle.xr_simulation.specs.Roles.{AreRoles, AreUsedSo, HasReserves, IsParent, Roles, got_by, own_branches, used_by}
use Rattle.xr_simulation.specs.Runners.{HoldsPlaces, Runner, Setting}
use Rattle.xr_simulation.specs.ThreadViews.{Owns, giving_back, held_in, sync_in}
use Rattle.xr_simulation.specs.MatchStates.{AreLoose, IsMade, IsRun, IsWanted, RunsBranch, MatchStates, ThreadRel, living_on}
use Rattle.xr_simulation.specs.Transfers.{Transfer}
use Rattle.xr_simulation.specs.NextStep.{HoldsStore, PortsStand}
use Rattle.xr_simulation.proofs.RelyGuarantee.Holding.{loose_behind}
use Rattle.xr_simulation.proofs.Relation.Moments.{Moment, ThreadAt}
use Rattle.xr_simulation.proofs.Relation.CoreSteps.{Effect, laid_at, other_same, parent_there, own_still, parents_left, same_hand, same_runner, stands_at, works_at}
use Rattle.xr_simulation.proofs.Relation.Pools.{num_is}
use Rattle.xr_simulation.proofs.Relation.Reserves.{GiveAsBefore, reserves_behind, reserves_of_others}
use Rattle.xr_simulation.proofs.Relation.Seats.{IsNobodys, IsSeated, role_cases, role_far, role_here, role_other, roles_go_on, with_role}
use Rattle.xr_simulation.proofs.Relation.Lasting.{parents_still, told_by}
use Rattle.xr_simulation.proofs.Relation.Events.{answered}
use Rattle.xr_simulation.proofs.Relation.Usage.{used_on}
use Rattle.xr_simulation.proofs.Channels.Wiring.{TransfersAsBefore, wired_as}
use Rattle.xr_simulation.proofs.OwnSteps.Branch.{Works, own_thread_of}
use Rattle.xl_expr.proofs.ResourceParts.{others_same}

-- What becomes of the runner and of the program: variables and clocks stay, other branches do so, too, and of the runner's own ones those that
-- go on are its own still.
pub record IsSettled (g : Setting) (r : Runner) (x : World) (s : Runner) (hand : Option Acquired) (piece : List Action) (y : World) : Type 0 where
  pub acted : acts_all g.program g.stimulus (Some x) piece ≡ Some y
  pub clocks : y.clocks ≡ x.clocks
  pub trace : y.trace ≡ x.trace
  pub store : y.store ≡ x.store
  pub inboxes : y.inboxes ≡ x.inboxes
  pub transfer : s.transfer ≡ r.transfer
  pub seated : IsSeated s r
  pub held : held_in hand ≡ []
  pub sync : sync_in hand ≡ None
  pub own : (b : ℕ) → IsAmong (own_branches s) b → IsAmong (own_branches r) b ⊎ (b ≡ length x.branches)
  pub branches : (n : ℕ) (branch : Branch) → (IsAmong (own_branches r) n → ⊥) → slice_get x.branches n ≡ Some branch → slice_get y.branches n ≡ Some branch
  pub living : (d : ℕ) → living_on d y.branches ≡ living_on d x.branches
  pub placed : ((n : ℕ) (branch : Branch) → slice_get x.branches n ≡ Some branch → branch.core < 4) → (n : ℕ) (branch : Branch) → slice_get y.branches n ≡ Some branch → branch.core < 4
  pub run : (n : ℕ) (branch : Branch) → slice_get y.branches n ≡ Some branch → has_ended branch.mode ≡ false →
      IsAmong (own_branches s) n
      ⊎ ((old : Branch) × (slice_get x.branches n ≡ Some old) × (has_ended old.mode ≡ false) × (IsAmong (own_branches r) n → IsAmong (own_branches s) n))
  pub made : ((n : ℕ) (branch : Branch) → slice_get x.branches n ≡ Some branch → has_ended branch.mode ≡ false → IsMade (length g.program.roots) x.branches n) →
      (n : ℕ) (branch : Branch) → slice_get y.branches n ≡ Some branch → has_ended branch.mode ≡ false → IsMade (length g.program.roots) y.branches n
  pub wants : (p : Parent) (v : ℕ) → IsParent s.parents p → by_items (variable v) p.items ≡ true → IsParent r.parents p ⊎ (r.footprint.uses v ≡ true)

module _ {may_rest : (core thread : ℕ) → Bool} {moment : Moment may_rest} (thread_at : ThreadAt moment None)
    (s : Runner) (hand : Option Acquired) (piece : List Action) (y : World)
    (d : IsSettled moment.setting thread_at.runner moment.told.state s hand piece y) where
  open moment use {setting as g, image as is, roles as who, watched as w, told as x, standing as st}
  open thread_at use {core as c, thread as t, state as a, at_core as at_c, runner as r, runs as runs_r}

  core_is : r.core ≡ c
  core_is = st.roles.core c t r None runs_r

  abbrev pub who_settled : Roles
  who_settled = with_role who c t (used_by s hand)

  not_t : (u : ℕ) → nat_eq u t ≡ false → u ≢ t
  not_t u m f = let both : true ≡ false = sym (eq-eqb u t f) ∙ m in cc

  -- what it leaves of others
  pub settled_effect : Effect g who c t r None (λ u. nat_eq u t) a a x.state y
  settled_effect = record {
    clock = refl;
    sizes = refl;
    threads = λ u m. refl;
    not_held = λ u k got ne. ne_eqb u t (λ f. got_not_run k (sym got ∙ ap (who c) f ∙ runs_r));
    ties = λ u n thread m there tied.
        let own = own_thread_of g r (may_rest c t) None a x.state (w.lives c t) x.actions (stands_at moment c t a r None at_c runs_r) in
        let at : u ≡ r.thread = eqb-true u t m ∙ sym (st.roles.thread c t r None runs_r) in
        let same : thread ≡ own.thread = same_Some thread own.thread (sym there ∙ ap (slice_get a.threads) at ∙ own.there) in
        inr (sym own.tied ∙ ap (λ (i : Thread). i.tie) (sym same) ∙ num_is thread.tie n tied);
    syncs = λ n ne taken. taken;
    words = λ k ne. refl;
    resources = others_same _ _ _ _ refl refl refl;
    clocks = d.clocks;
    branches = d.branches;
    store = λ v ne. ap (λ l. words_of l v) d.store;
  }
    where
      got_not_run : (k : ℕ) → got_by k ≡ used_by r None → ⊥
      got_not_run k f = cc

  -- nobody has a branch that isn't there
  new_nobodys : (b : ℕ) → b ≡ length x.state.branches → IsNobodys who b
  new_nobodys b e i u q other at m =
      let works = works_at moment i u q other at in
      ⊎_elim
      (λ (f : b ≡ q.branch).
      let lt = slice_get_within x.state.branches q.branch works.branch works.known in
      let z : ⊥ = omega (arith, lt, e, f) in z)
      (λ (f : IsAmong (branches_of q.parents) b).
      let there = parent_there g x.state q.core q.family q.branch q.parents b works.parents f in
      let lt = slice_get_within x.state.branches b there.0 there.1 in
      let z : ⊥ = omega (arith, lt, e) in z)
      m

  pub roles_settled : AreRoles g who_settled
  roles_settled = roles_go_on g who c t st.roles r None runs_r s hand (record {
    seated = d.seated;
    held = d.held;
    sync = λ n f. absurd (none_is_some n (sym d.sync ∙ f));
    branches = λ b m. ⊎_elim (λ (old : IsAmong (own_branches r) b). inl old) (λ (new : b ≡ length x.state.branches). inr (new_nobodys b new)) (d.own b m);
  })
    where
      none_is_some : (n : ℕ) → ◌≡◌ {A = Option ℕ} None (Some n) → ⊥
      none_is_some n f = cc

  gives_settled : GiveAsBefore who who_settled
  gives_settled = record {
    before = λ i u n q at.
        ⊎_elim
        (λ here. let none : None ≡ Some n = sym d.sync ∙ ap sync_in (same_hand s q hand (giving_back n) (sym here.2 ∙ at)) in cc)
        (λ there. (q, n, sym there.1 ∙ at, refl))
        (role_cases who c t (used_by s hand) i u);
  }

  pub reserves_settled : HasReserves g who_settled y
  reserves_settled = reserves_of_others g who y (reserves_behind g who x.state st.lawful st.reserves piece y d.acted) who_settled gives_settled

  owns_before : (n : ℕ) → Owns s hand n → Owns r None n
  owns_before n (inl m) = inl (subst (λ l. IsAmong l n) d.seated.syncs m)
  owns_before n (inr e) = let none : ◌≡◌ {A = Option ℕ} None (Some n) = sym d.sync ∙ e in cc

  owns_now : (n : ℕ) → Owns r None n → Owns s hand n
  owns_now n (inl m) = inl (subst (λ l. IsAmong l n) (sym d.seated.syncs) m)
  owns_now n (inr e) = let none : ◌≡◌ {A = Option ℕ} None (Some n) = e in cc

  pub used_settled : AreUsedSo who_settled c a
  used_settled = used_on g who c t st.roles r None runs_r a a (st.used c a at_c) s hand
      (record { as_many = refl; as_many_syncs = refl; alike = λ u ne. record { by = λ thread there. (thread, there, refl, refl, refl) }; syncs = λ n ne taken. taken })
      (λ n taken. inr (taken, owns_now n))
      (λ n owns. (st.used c a at_c).owned t n r None runs_r (owns_before n owns))
      (λ n u f m. absurd m)

  -- each other runner is there still
  runner_still : (i u : ℕ) (q : Runner) (other : Option Acquired) → who i u ≡ used_by q other → (r ≡ q) ⊎ (who_settled i u ≡ used_by q other)
  runner_still i u q other at =
      ⊎_elim
      (λ here. inl (same_runner r q None other (sym runs_r ∙ sym (ap (λ k. who k u) here.0 ∙ ap (who c) here.1) ∙ at)))
      (λ there. inr (there.1 ∙ at))
      (role_cases who c t (used_by s hand) i u)

  run_settled : (n : ℕ) (branch : Branch) → slice_get y.branches n ≡ Some branch → has_ended branch.mode ≡ false → IsRun who_settled n
  run_settled n branch there on =
      let now = role_here who c t (used_by s hand) in
      ⊎_elim
      (λ (m : IsAmong (own_branches s) n). record { core = c; thread = t; runner = s; hand = hand; runs = now; branch = m })
      (λ old.
      let q = st.run n old.0 old.1 old.2 in
      ⊎_elim
      (λ (same : r ≡ q.runner). record { core = c; thread = t; runner = s; hand = hand; runs = now; branch = old.3 (subst (λ (k : Runner). IsAmong (own_branches k) n) (sym same) q.branch) })
      (λ (still : who_settled q.core q.thread ≡ used_by q.runner q.hand). record { core = q.core; thread = q.thread; runner = q.runner; hand = q.hand; runs = still; branch = q.branch })
      (runner_still q.core q.thread q.runner q.hand q.runs))
      (d.run n branch there on)

  -- what a branch wants that waits was wanted, or the runner used it
  want_before : (v : ℕ) → IsWanted who_settled c v → IsWanted who c v ⊎ (r.footprint.uses v ≡ true)
  want_before v want =
      ⊎_elim
      (λ here.
      let same = same_runner s want.runner hand want.hand (sym here.2 ∙ want.runs) in
      ⊎_elim
      (λ (old : IsParent r.parents want.parent). inl (record { thread = t; runner = r; hand = None; runs = runs_r; parent = want.parent; waits = old; uses = want.uses }))
      (λ (uses : r.footprint.uses v ≡ true). inr uses)
      (d.wants want.parent v (subst (λ (k : Runner). IsParent k.parents want.parent) (sym same) want.waits) want.uses))
      (λ there. inl (record { thread = want.thread; runner = want.runner; hand = want.hand; runs = sym there.1 ∙ want.runs; parent = want.parent; waits = want.waits; uses = want.uses }))
      (role_cases who c t (used_by s hand) c want.thread)

  -- What nobody may change is as the program has it, where the runner held what it had.
  module _ (holds : HoldsStore g r (record { core = a; world = x.state; hand = None })) (ports : PortsStand g r (record { core = a; world = x.state; hand = None })) where
    pub loose_settled : 1 ≤ threads_on g.program c → AreLoose g who_settled c a y
    loose_settled some =
        loose_behind g who who_settled c a a x.state y r core_is (laid_at moment c t r None runs_r)
        (st.loose c a at_c some) (record
        { words = λ k ne. refl; resources = others_same _ _ _ _ refl refl refl; store = λ v ne. ap (λ l. words_of l v) d.store })
        (record { holds = subst (λ l. HoldsPlaces g r.core r.footprint.uses a.words l) (sym d.store) holds.holds; room = holds.room })
        (λ q listed its. let k = ports q listed its in record { port = k.port; there = k.there; declared = k.declared })
        (λ v nobody no u i other at. ⊎_elim (λ (same : r ≡ i). subst (λ (k : Runner). k.footprint.changes v ≡ false) same no) (λ now. nobody u i other now) (runner_still c u i other at))
        (λ v want. want_before v want)
        (λ q nobody no u i other at. ⊎_elim (λ (same : r ≡ i). subst (λ (k : Runner). k.footprint.ports q ≡ false) same no) (λ now. nobody u i other now) (runner_still c u i other at))

    -- The runner stands so, and then all do. It is in no transfer.
    module _ (none : r.transfer ≡ None) (may_rest' : (core thread : ℕ) → Bool) (rests : (i u : ℕ) → ((i ≡ c) × (u ≡ t) → ⊥) → may_rest i u ≡ true → may_rest' i u ≡ true) (next : Branch) (there : slice_get y.branches s.branch ≡ Some next)
        (stand : RunsBranch g s (may_rest' c t) hand a y (w.lives c t) (told_by g.program g.stimulus x piece y).actions next) where
      abbrev more : ℕ → ℕ
      more = (told_by g.program g.stimulus x piece y).actions

      own_stand : (u : ℕ) → nat_eq u t ≡ true → ThreadRel g (may_rest' c u) a y (w.lives c u) more (who_settled c u)
      own_stand u m =
          let at : u ≡ t = eqb-true u t m in
          subst (λ k. ThreadRel g (may_rest' c k) a y (w.lives c k) more (who_settled c k)) (sym at)
          (subst (ThreadRel g (may_rest' c t) a y (w.lives c t) more) (sym (role_here who c t (used_by s hand)))
          (subst (λ o. SomeIs o (RunsBranch g s (may_rest' c t) hand a y (w.lives c t) more)) (sym there) stand))

      -- each thread is in the transfer in which it was
      transfers_settled : TransfersAsBefore who who_settled
      transfers_settled = record {
        before = λ i u q other transfer at its.
            ⊎_elim
            (λ here. absurd (not_one transfer s (d.transfer ∙ none) q (same_runner s q hand other (sym here.2 ∙ at)) its))
            (λ there. (q, other, sym there.1 ∙ at, its))
            (role_cases who c t (used_by s hand) i u);
        still = λ i u q other transfer at its.
            ⊎_elim
            (λ (same : r ≡ q). absurd (not_one transfer r none q same its))
            (λ now. (q, other, now, its))
            (runner_still i u q other at);
      }
        where
          not_one : (transfer : Transfer) (i : Runner) → i.transfer ≡ None → (q : Runner) → i ≡ q → q.transfer ≡ Some transfer → ⊥
          not_one transfer i in_none q same its = let both : None ≡ Some transfer = sym in_none ∙ ap (λ (k : Runner). k.transfer) same ∙ its in cc

      -- the runner is in none
      none_inside : (u : ℕ) (q : Runner) (other : Option Acquired) (transfer : Transfer) → nat_eq u t ≡ true → who_settled c u ≡ used_by q other → q.transfer ≡ Some transfer → ⊥
      none_inside u q other transfer m at its =
          let now : used_by s hand ≡ used_by q other = sym (role_here who c t (used_by s hand)) ∙ sym (ap (who_settled c) (eqb-true u t m)) ∙ at in
          let both : None ≡ Some transfer = sym (d.transfer ∙ none) ∙ ap (λ (k : Runner). k.transfer) (same_runner s q hand other now) ∙ its in cc

      pub settled : MatchStates g may_rest' who_settled w (told_by g.program g.stimulus x piece y)
      settled =
          answered thread_at (λ u. nat_eq u t) (eq-eqb t t refl) a y settled_effect may_rest' who_settled w piece
          (record { was = at_c; is = at_c; others = λ i e ne at. other_same w w i e refl at; as_many = refl; sizes = refl })
          (record {
            acted = d.acted;
            clocks = st.clocks ∙ sym d.clocks;
            trace = st.trace ∙ sym d.trace;
            roles = roles_settled;
            reserves = reserves_settled;
            used = used_settled;
            same_role = λ u m. role_other who c t (used_by s hand) u (not_t u m);
            far_role = λ i u ne. role_far who c t (used_by s hand) i u ne;
            rests = λ u m may. rests c u (λ h. not_t u m h.1) may;
            far_rests = λ i u ne may. rests i u (λ h. ne h.0) may;
            steps = λ u m. refl;
            far_steps = λ i u ne. refl;
            stand = own_stand;
            wired = wired_as g who who_settled transfers_settled w.machine x.state y d.inboxes st.wired;
            alone = λ u i other transfer m at its. absurd (none_inside u i other transfer m at its);
            loose = loose_settled;
            roots = st.roots c a at_c ∙ sym (d.living c);
            far_roots = λ i ne. d.living i;
            placed = d.placed st.placed;
            run = run_settled;
            made = d.made st.made;
          })

  -- what is known of the runners then
  pub works_settled : Works g y s hand → (i u : ℕ) (q : Runner) (other : Option Acquired) → who_settled i u ≡ used_by q other → Works g y q other
  works_settled own i u q other at =
      ⊎_elim
      (λ here.
      let both : used_by s hand ≡ used_by q other = sym here.2 ∙ at in
      subst (λ k. Works g y k other) (same_runner s q hand other both) (subst (λ k. Works g y s k) (same_hand s q hand other both) own))
      (λ other_one.
      let was = sym other_one.1 ∙ at in
      let works = works_at moment i u q other was in
      record {
        branch = works.branch;
        known = own_still moment thread_at (λ k. nat_eq k t) a y settled_effect i u q other other_one.0 was q.branch works.branch
            (inl refl) works.known ∙ works.known;
        goes = works.goes;
        core = works.core;
        family = works.family;
        footprint = works.footprint;
        parents = parents_still g q x.state y q.core q.family q.parents q.branch
            (parents_left moment thread_at (λ k. nat_eq k t) a y settled_effect i u q other other_one.0 was) works.parents;
        in_hand = works.in_hand;
        sides = works.sides;
        inside = works.inside;
        done = works.done;
        stops = works.stops;
      })
      (role_cases who c t (used_by s hand) i u)
