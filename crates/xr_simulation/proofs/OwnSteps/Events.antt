-- A branch's own step, by the machine and by the program: its thread has nothing in hand, and no branches are made.
use Rattle.std.proofs.Common.{◌≡◌, ℕ, ◌+◌, ◌*◌, ◌<◌, ◌≤◌, ◌≢◌, ◌⊎◌, inl, inr, [], ◌∷◌, List, length, Option, Some, None, refl, sym, ap, ◌∙◌, subst, ⊎_elim, arith, eq-eqb, map}
use Rattle.std.specs.Prelude.{Bool, true, false, ◌&&◌, ◌||◌, nat_eq, slice_get, slice_set}
use Rattle.std.proofs.lemmas.Bool.{eqb-true, ne_eqb}
use Rattle.std.proofs.lemmas.Option.{same_Some}
use Rattle.std.proofs.Math.Nat.{mul-le-mul_left}
use Rattle.xs_instr.specs.declared.state.CoreState.{CoreState}
use Rattle.xs_instr.specs.declared.state.Sent.{Sent}
use Rattle.xs_instr.specs.declared.state.Thread.{Thread}
use Rattle.xs_instr.specs.declared.trace.Record.{Record}
use Rattle.xs_instr.specs.Machine.{noted}
use Rattle.xc_disjoint.specs.Needs.{threads_on}
use Rattle.xc_invariants.specs.Tree.{IsWaiting}
use Rattle.xc_meaning.specs.Counts.Families.{steps_of}
use Rattle.xc_meaning.specs.Runs.{acts_all}
use Rattle.xc_meaning.specs.States.Branches.{Branch, runs, waits, ended, has_ended}
use Rattle.xc_meaning.specs.States.Channels.{Parcel}
use Rattle.xc_meaning.specs.States.Items.{Item}
use Rattle.xc_meaning.specs.States.Worlds.{World, Action}
use Rattle.xc_meaning.specs.Uses.{by_item, by_items}
use Rattle.xl_expr.proofs.Lists.{get_set_same, get_set_other}
use Rattle.xl_par.specs.Acquired.{Acquired, IsAmong}
use Rattle.xr_match.specs.Implements.{clock_of}
use Rattle.xr_match.specs.Lives.{Watched}
use Rattle.xr_match.specs.Systems.{SomeIs}
use Rattle.xr_simulation.specs.Living.{AreNamed}
use Rattle.xr_simulation.specs.Parents.{Parent, branches_of}
use Rattle.xr_simulation.specs.Roles.{IsParent, ParentsWait, Role, Roles, got_by, own_branches, used_by}
use Rattle.xr_simulation.specs.Runners.{Footprint, Runner, Setting, footprint_of}
use Rattle.xr_simulation.specs.ThreadViews.{Guarantee, giving_back}
use Rattle.xr_simulation.specs.MatchStates.{AreLoose, IsMade, IsRun, MatchStates, RunsBranch, ThreadRel, counts, living_on, none_rests}
use Rattle.xr_simulation.specs.Transfers.{Transfer, spared, spared_with}
use Rattle.xr_simulation.specs.NextStep.{HoldsStore, IsNext, PortsStand, first_changes}
use Rattle.xr_simulation.specs.Wired.{AreWired, HasAlone}
use Rattle.xr_simulation.proofs.Channels.OwnSide.{alone_behind}
use Rattle.xr_simulation.proofs.Relation.Counts.{far_counts, living_after}
use Rattle.xr_simulation.proofs.RelyGuarantee.Holding.{LeavesLoose, loose_behind}
use Rattle.xr_simulation.proofs.Relation.Moments.{Moment, ThreadAt}
use Rattle.xr_simulation.proofs.Relation.CoreSteps.{Effect, channel_known, laid_at, same_hand, same_runner, stands_at, works_at, HasStepped}
use Rattle.xr_simulation.proofs.Lives.Links.{own_linked, told_one}
use Rattle.xr_simulation.proofs.Lives.Pieces.{Goes}
use Rattle.xr_simulation.proofs.Relation.Pools.{num_is}
use Rattle.xr_simulation.proofs.Relation.Reserves.{GiveAsBefore, reserves_behind, reserves_of_others}
use Rattle.xr_simulation.proofs.Relation.Seats.{IsSeated, goes_on, role_cases, role_far, role_here, role_other, roles_go_on, with_role}
use Rattle.xr_simulation.proofs.Relation.Lasting.{Follows, get_set_cases, told_by}
use Rattle.xr_simulation.proofs.Relation.Events.{answered, clocks_still, far_steps_as_long, has_sent, steps_as_long, watched, watched_sending}
use Rattle.xr_simulation.proofs.Relation.Usage.{OthersUsed, used_on}
use Rattle.xr_simulation.proofs.Channels.Wiring.{TransfersAsBefore, wired_still}
use Rattle.xc_kernel.specs.Eval.{words_of}
use Rattle.xc_kernel.specs.Things.{change}

-- a step of the family pays for the silent steps behind it
pub bound_grows : (most greatest steps left j further actions more : ℕ) → most ≡ 8 * (greatest + 16) → steps + left ≤ most * (actions + 1) → j ≤ left → further ≤ j + 1 + (8 * greatest + 8) → 1 ≤ more → steps + 1 + (further + 3) ≤ most * (actions + more + 1)
bound_grows most greatest steps left j further actions more is bound few enough some =
    let le : actions + 1 + 1 ≤ actions + more + 1 = omega arith in
    let grown = mul-le-mul_left most le in
    omega (arith, grown)

-- no more than three steps are spared
pub spared_few : (o : Option Transfer) → spared o ≤ 3
spared_few None = omega arith
spared_few (Some transfer) = by transfer.late
  where
    by : (late : List Parcel) → spared_with late ≤ 3
    by [] = omega arith
    by (p ∷ ps) = omega arith

-- one that waits isn't one that runs
pub parent_waits : (g : Setting) (x : World) (core family first : ℕ) (ps : List Parent) (n : ℕ) → ParentsWait g x core family ps first → IsAmong (branches_of ps) n → (branch : Branch) × (slice_get x.branches n ≡ Some branch) × IsWaiting branch.mode
parent_waits g x core family first [] n h m = absurd m
parent_waits g x core family first (p ∷ ps) n h (inl e) = (h.0.branch, ap (slice_get x.branches) e ∙ h.0.known, subst IsWaiting (sym h.0.mode) tt)
parent_waits g x core family first (p ∷ ps) n h (inr m) = parent_waits g x core family p.branch ps n h.1 m

-- one thread alone
abbrev pub only_thread : (t u : ℕ) → Bool
only_thread t u = nat_eq u t

-- who may be at rest behind an event of one thread
abbrev pub rests_alone : (c t d u : ℕ) → Bool
rests_alone c t d u = nat_eq d c && nat_eq u t

pub rests_there : (c t : ℕ) → rests_alone c t c t ≡ true
rests_there c t = ap (λ b. b && nat_eq t t) (eq-eqb c c refl) ∙ eq-eqb t t refl

-- what none of some items changes, the first one doesn't
first_unchanged : (items : List Item) (v : ℕ) → by_items (change v) items ≡ false → first_changes items v ≡ false
first_unchanged [] v h = refl
first_unchanged (item ∷ rest) v h = neither (by_item (change v) item) (by_items (change v) rest) h
  where
    neither : (a b : Bool) → (a || b) ≡ false → a ≡ false
    neither true b h = h
    neither false b h = refl

-- What a branch's own step leaves of its core and of the program, which does a piece of one action or more with it, one at least for the
-- branch's family. As many roots and roots' branches go on, the thread is tied as before or to nothing, and memory and ports are as the
-- program has them. The thread may be inside a transfer then.
pub record OwnStep (g : Setting) (r : Runner) (c : ℕ) (a : CoreState) (x : World) : Type 0 where
  pub left : CoreState
  pub made : Option Record
  pub branch : Branch
  pub known : slice_get x.branches r.branch ≡ Some branch
  pub running : branch.mode ≡ runs
  pub world : World
  pub piece : List Action
  pub acted : acts_all g.program g.stimulus (Some x) piece ≡ Some world
  pub paid : 1 ≤ steps_of g.program g.stimulus branch.family (Some x) piece
  pub next : Branch
  pub transfer : Option Transfer
  pub birth : next.birth ≡ branch.birth
  pub is_next : IsNext g r x world branch next made
  pub core : next.core ≡ branch.core
  pub guarantee : Guarantee g r (record { core = a; world = x; hand = None }) (record { core = left; world = x; hand = None })
  pub syncs : left.syncs ≡ a.syncs
  pub tie : (thread : Thread) → slice_get left.threads r.thread ≡ Some thread → (thread.tie ≡ r.tie) ⊎ (thread.tie ≡ None)
  pub roots : left.roots + counts c branch ≡ a.roots + counts c next
  pub holds : HoldsStore g r (record { core = left; world = world; hand = None })
  pub ports : PortsStand g r (record { core = left; world = world; hand = None })

module _ {moment : Moment none_rests} (thread_at : ThreadAt moment None)
    (e : OwnStep moment.setting thread_at.runner thread_at.core thread_at.state moment.told.state) where
  open moment use {setting as g, first, image as is, roles as who, watched as w, told as x, standing as st}
  open thread_at use {core as c, thread as t, state as a, at_core as at_c, runner as r, runs as runs_r}

  pub core_is : r.core ≡ c
  core_is = st.roles.core c t r None runs_r

  pub thread_is : r.thread ≡ t
  thread_is = st.roles.thread c t r None runs_r

  moved : ℕ → Bool
  moved = only_thread t

  abbrev piece : List Action
  piece = e.piece

  -- the branch is another one, and the others are what they were
  own_branch : slice_get e.world.branches r.branch ≡ Some e.next
  own_branch = ap (λ l. slice_get l r.branch) e.is_next.branches ∙ get_set_same x.state.branches r.branch e.branch e.next e.known

  pub other_branch : (n : ℕ) → n ≢ r.branch → slice_get e.world.branches n ≡ slice_get x.state.branches n
  other_branch n ne = ap (λ l. slice_get l n) e.is_next.branches ∙ get_set_other x.state.branches r.branch n e.next ne

  pub branch_cases : (n : ℕ) (branch : Branch) → slice_get e.world.branches n ≡ Some branch → ((n ≡ r.branch) × (branch ≡ e.next)) ⊎ ((n ≢ r.branch) × (slice_get x.state.branches n ≡ Some branch))
  branch_cases n branch there = get_set_cases x.state.branches r.branch n e.branch e.next branch e.known (ap (λ l. slice_get l n) (sym e.is_next.branches) ∙ there)

  pub all_acted : acts_all g.program g.stimulus (Some x.state) piece ≡ Some e.world
  all_acted = e.acted

  -- what its runner may not change, its first item doesn't
  own_store : (v : ℕ) → r.footprint.changes v ≡ false → words_of e.world.store v ≡ words_of x.state.store v
  own_store v unchanged =
      let works = works_at moment c t r None runs_r in
      let same : works.branch ≡ e.branch = same_Some works.branch e.branch (sym works.known ∙ e.known) in
      e.is_next.store v (first_unchanged e.branch.items v
      (ap (λ (b : Branch). by_items (change v) b.items) (sym same) ∙ ap (λ (f : Footprint). f.changes v)
      (sym works.footprint) ∙ unchanged))

  not_t : (u : ℕ) → only_thread t u ≡ false → u ≢ t
  not_t u m f = let both : true ≡ false = sym (eq-eqb u t f) ∙ m in cc

  pub own_effect : Effect g who c t r None (only_thread t) a e.left x.state e.world
  own_effect = record {
    clock = e.guarantee.clock;
    sizes = e.guarantee.sizes;
    threads = λ u m. e.guarantee.others u (λ f. not_t u m (f ∙ thread_is)) (λ k. k);
    not_held = λ u s got ne. ne_eqb u t (λ f. got_not_run s (sym got ∙ ap (who c) f ∙ runs_r));
    ties = λ u n thread m there tied.
        let at : u ≡ t = eqb-true u t m in
        let tied_to : thread.tie ≡ Some n = num_is thread.tie n tied in
        ⊎_elim
        (λ (same : thread.tie ≡ r.tie). inr (sym same ∙ tied_to))
        (λ (none : thread.tie ≡ None). absurd (none_is_some n (sym none ∙ tied_to)))
        (e.tie thread (ap (slice_get e.left.threads) (thread_is ∙ sym at) ∙ there));
    syncs = λ n ne taken. ap (λ l. slice_get l n) e.syncs ∙ taken;
    words = e.guarantee.words;
    resources = e.guarantee.resources;
    clocks = e.is_next.clocks;
    branches = λ n branch ne there. other_branch n (λ f. ne (inl f)) ∙ there;
    store = own_store;
  }
    where
      got_not_run : (s : ℕ) → got_by s ≡ used_by r None → ⊥
      got_not_run s f = cc

      none_is_some : (n : ℕ) → ◌≡◌ {A = Option ℕ} None (Some n) → ⊥
      none_is_some n f = cc

  -- the program's branches are placed, and made, as they were
  pub own_placed : (n : ℕ) (branch : Branch) → slice_get e.world.branches n ≡ Some branch → branch.core < 4
  own_placed n branch there =
      ⊎_elim
      (λ (h : (n ≡ r.branch) × (branch ≡ e.next)). subst (λ k. k < 4) (sym (ap (λ (b : Branch). b.core) h.1 ∙ e.core)) (st.placed r.branch e.branch e.known))
      (λ (h : (n ≢ r.branch) × (slice_get x.state.branches n ≡ Some branch)). st.placed n branch h.1)
      (branch_cases n branch there)

  made_still : (n : ℕ) → IsMade (length g.program.roots) x.state.branches n → IsMade (length g.program.roots) e.world.branches n
  made_still n (inl lt) = inl lt
  made_still n (inr (m, child)) =
      inr (
        m,
        record {
          parent = child.parent;
          is = other_branch m (λ f. runs_not_waits child.from child.count (sym e.running ∙ ap (λ (b : Branch). b.mode) (same_Some e.branch child.parent (sym e.known ∙ ap (slice_get x.state.branches) (sym f) ∙ child.is)) ∙ child.waiting)) ∙ child.is;
          from = child.from;
          count = child.count;
          waiting = child.waiting;
          least = child.least;
          less = child.less;
        },
      )
    where
      runs_not_waits : (from count : ℕ) → runs ≡ waits from count → ⊥
      runs_not_waits from count f = cc

  pub own_made : (n : ℕ) (branch : Branch) → slice_get e.world.branches n ≡ Some branch → has_ended branch.mode ≡ false → IsMade (length g.program.roots) e.world.branches n
  own_made n branch there goes_on =
      ⊎_elim
      (λ (h : (n ≡ r.branch) × (branch ≡ e.next)). subst (IsMade (length g.program.roots) e.world.branches) (sym h.0) (made_still r.branch (st.made r.branch e.branch e.known (ap has_ended e.running))))
      (λ (h : (n ≢ r.branch) × (slice_get x.state.branches n ≡ Some branch)). made_still n (st.made n branch h.1 goes_on))
      (branch_cases n branch there)

  pub own_roots : e.left.roots ≡ living_on c e.world.branches
  own_roots =
      let after = living_after c x.state.branches r.branch e.branch e.next e.known in
      let old = st.roots c a at_c in
      let now = e.roots in
      let set : e.left.roots ≡ living_on c (slice_set x.state.branches r.branch e.next) = omega arith in
      set ∙ ap (living_on c) (sym e.is_next.branches)

  core_of_branch : e.branch.core ≡ c
  core_of_branch = stand_core ∙ core_is
    where
      stand_core : e.branch.core ≡ r.core
      stand_core = (subst (λ o. SomeIs o (RunsBranch g r false None a x.state (w.lives c t) x.actions)) e.known
          (stands_at moment c t a r None at_c runs_r)).core

  pub own_far_roots : (d : ℕ) → d ≢ c → living_on d e.world.branches ≡ living_on d x.state.branches
  own_far_roots d ne =
      let after = living_after d x.state.branches r.branch e.branch e.next e.known in
      let far_old = far_counts d e.branch (λ f. ne (sym f ∙ core_of_branch)) in
      let far_new = far_counts d e.next (λ f. ne (sym f ∙ e.core ∙ core_of_branch)) in
      let same : living_on d (slice_set x.state.branches r.branch e.next) ≡ living_on d x.state.branches = omega arith in
      ap (living_on d) e.is_next.branches ∙ same

  pub leaves_loose : LeavesLoose g r a e.left x.state e.world
  leaves_loose = record { words = e.guarantee.words; resources = e.guarantee.resources; store = own_store }

  pub others_used : OthersUsed g who c t st.roles r None runs_r a e.left (st.used c a at_c)
  others_used = record {
    as_many = e.guarantee.as_many;
    as_many_syncs = ap length e.syncs;
    alike = λ u ne. record { by = λ thread there. (thread, e.guarantee.others u (λ f. ne (f ∙ thread_is)) (λ k. k) ∙ there, refl, refl, refl) };
    syncs = λ n ne taken. ap (λ l. slice_get l n) e.syncs ∙ taken;
  }

  -- no branch is made
  pub own_goes : Goes g x (told_by g.program g.stimulus x piece e.world)
  own_goes = told_one g x piece e.world r.branch e.branch e.next e.known e.birth e.is_next.branches

  -- the core behind the step, and its other threads
  pub at_left : slice_get (slice_set w.machine.cores c e.left) c ≡ Some e.left
  at_left = get_set_same w.machine.cores c a e.left at_c

  pub others_there : (u : ℕ) → u ≢ t → slice_get e.left.threads u ≡ slice_get a.threads u
  others_there u ne = e.guarantee.others u (λ f. ne (f ∙ thread_is)) (λ k. k)

  -- what was there behind another role of the thread
  module _ (role : Role) where
    abbrev who' : Roles
    who' = with_role who c t role

    pub same_role : (u : ℕ) → only_thread t u ≡ false → who' c u ≡ who c u
    same_role u m = role_other who c t role u (not_t u m)

  -- The thread goes on with its branch, or stands where that has ended or erred.
  module _ (may_rest' : (core thread : ℕ) → Bool) where
    abbrev pub s : Runner
    s = record r { footprint = footprint_of e.next.items; transfer = e.transfer }

    abbrev pub who_on : Roles
    who_on = with_role who c t (used_by s None)

    seated : IsSeated s r
    seated = record {
      core = refl;
      thread = refl;
      tie = refl;
      family = refl;
      block = refl;
      stack = refl;
      outermost_is = refl;
      syncs = refl;
      there = λ p n f h. h;
      still = λ p n f h. h;
    }

    -- each runner was there, with the same parents, and each but the thread's own is there still
    runner_before : (d u : ℕ) (i : Runner) (other : Option Acquired) → who_on d u ≡ used_by i other → (j : Runner) × (old : Option Acquired) × (who d u ≡ used_by j old) × (j.parents ≡ i.parents)
    runner_before d u i other at =
        ⊎_elim
        (λ here. (r, None, ap (λ k. who k u) here.0 ∙ ap (who c) here.1 ∙ runs_r, ap (λ (k : Runner). k.parents) (same_runner s i None other (sym here.2 ∙ at))))
        (λ there. (i, other, sym there.1 ∙ at, refl))
        (role_cases who c t (used_by s None) d u)

    runner_still : (u : ℕ) (i : Runner) (other : Option Acquired) → who c u ≡ used_by i other → (r ≡ i) ⊎ (who_on c u ≡ used_by i other)
    runner_still u i other at =
        ⊎_elim
        (λ here. inl (same_runner r i None other (sym runs_r ∙ ap (who c) (sym here.1) ∙ at)))
        (λ there. inr (there.1 ∙ at))
        (role_cases who c t (used_by s None) c u)

    loose_on : 1 ≤ threads_on g.program c → AreLoose g who_on c e.left e.world
    loose_on some =
        loose_behind g who who_on c a e.left x.state e.world r core_is (laid_at moment c t r None runs_r)
        (st.loose c a at_c some) leaves_loose e.holds e.ports
        (λ v nobody no u i other at. ⊎_elim (λ (same : r ≡ i). subst (λ (k : Runner). k.footprint.changes v ≡ false) same no) (λ now. nobody u i other now) (runner_still u i other at))
        (λ v wanted.
        let b = runner_before c wanted.thread wanted.runner wanted.hand wanted.runs in
        inl (record { thread = wanted.thread; runner = b.0; hand = b.1; runs = b.2; parent = wanted.parent; waits = subst (λ ps. IsParent ps wanted.parent) (sym b.3) wanted.waits; uses = wanted.uses }))
        (λ q nobody no u i other at. ⊎_elim (λ (same : r ≡ i). subst (λ (k : Runner). k.footprint.ports q ≡ false) same no) (λ now. nobody u i other now) (runner_still u i other at))

    gives_as_before : GiveAsBefore who who_on
    gives_as_before = record {
      before = λ d u n i at.
          ⊎_elim
          (λ here. let none : None ≡ giving_back n = same_hand s i None (giving_back n) (sym here.2 ∙ at) in cc)
          (λ there. (i, n, sym there.1 ∙ at, refl))
          (role_cases who c t (used_by s None) d u);
    }

    run_on : (n : ℕ) (branch : Branch) → slice_get e.world.branches n ≡ Some branch → has_ended branch.mode ≡ false → IsRun who_on n
    run_on n branch there on =
        ⊎_elim
        (λ (h : (n ≡ r.branch) × (branch ≡ e.next)). record { core = c; thread = t; runner = s; hand = None; runs = role_here who c t (used_by s None); branch = inl h.0 })
        (λ (h : (n ≢ r.branch) × (slice_get x.state.branches n ≡ Some branch)).
        let q = st.run n branch h.1 on in
        ⊎_elim
        (λ here.
        let same = same_runner r q.runner None q.hand (sym runs_r ∙ sym (ap (λ k. who k q.thread) here.0 ∙ ap (who c) here.1) ∙ q.runs) in
        record { core = q.core; thread = q.thread; runner = s; hand = None; runs = here.2; branch = subst (λ (k : Runner). IsAmong (own_branches k) n) (sym same) q.branch })
        (λ other. record { core = q.core; thread = q.thread; runner = q.runner; hand = q.hand; runs = other.1 ∙ q.runs; branch = q.branch })
        (role_cases who c t (used_by s None) q.core q.thread))
        (branch_cases n branch there)

    abbrev pub watched_on : Watched
    watched_on = watched thread_at (only_thread t) (eq-eqb t t refl) e.left e.world own_effect e.made

    -- where its thread is in the transfer in which it was, all threads are
    own_transfers : e.transfer ≡ r.transfer → TransfersAsBefore who who_on
    own_transfers same = record {
      before = λ d u i other transfer at its.
          ⊎_elim
          (λ here. (r, None, ap (λ k. who k u) here.0 ∙ ap (who c) here.1 ∙ runs_r, sym same ∙ ap (λ (k : Runner). k.transfer) (same_runner s i None other (sym here.2 ∙ at)) ∙ its))
          (λ there. (i, other, sym there.1 ∙ at, its))
          (role_cases who c t (used_by s None) d u);
      still = λ d u i other transfer at its.
          ⊎_elim
          (λ here.
          let one : r ≡ i = same_runner r i None other (sym runs_r ∙ sym (ap (λ k. who k u) here.0 ∙ ap (who c) here.1) ∙ at) in
          (s, None, here.2, same ∙ ap (λ (k : Runner). k.transfer) one ∙ its))
          (λ there. (i, other, there.1 ∙ at, its))
          (role_cases who c t (used_by s None) d u);
    }

    -- and where ends and inboxes stay, the channels are wired as before
    pub wired_on : e.transfer ≡ r.transfer → e.left.ends ≡ a.ends → e.world.inboxes ≡ x.state.inboxes →
        AreWired g who_on watched_on.machine e.world
    wired_on same ends boxes =
        wired_still g who who_on w.machine watched_on.machine c a e.left x.state e.world (own_transfers same) at_c refl refl ends boxes st.wired

    -- a branch that hasn't ended has its side for itself still
    pub alone_on : e.transfer ≡ r.transfer → (e.next.mode ≡ ended → ⊥) → (transfer : Transfer) → e.transfer ≡ Some transfer → HasAlone e.world.branches transfer.channel transfer.side r.branch
    alone_on same not_over transfer its =
        let was = sym same ∙ its in
        alone_behind transfer.channel transfer.side g x.state st.lawful
        (channel_known g who w.machine x.state st.wired c t r None transfer runs_r was) r.branch e.branch e.next e.known
        (st.alone c t r None transfer runs_r was)
        piece e.world all_acted own_branch not_over

    -- An event of which this is the thread's part: a step of the thread, or another one that lets the branch act. Core c stands behind it
    -- as the step leaves it, other threads' lives are as long as before, and the names of threads stay.
    pub record IsEvent (w' : Watched) : Type 0 where
      pub stepped : HasStepped w w' c a e.left
      pub clocks : map clock_of w'.machine.cores ≡ e.world.clocks
      pub trace : w'.machine.trace ≡ noted w.machine.trace e.made
      pub steps : (u : ℕ) → only_thread t u ≡ false → (w'.lives c u).steps ≡ (w.lives c u).steps
      pub far_steps : (d u : ℕ) → d ≢ c → (w'.lives d u).steps ≡ (w.lives d u).steps
      pub named : AreNamed g who w x → AreNamed g who_on w' (told_by g.program g.stimulus x piece e.world)

    -- a step of the thread is one, with which this is sent over links
    abbrev pub watched_behind : List Sent → Watched
    watched_behind sent = watched_sending thread_at (only_thread t) (eq-eqb t t refl) e.left e.world own_effect e.made sent

    pub is_step : (sent : List Sent) → IsEvent (watched_behind sent)
    is_step sent =
        let o = only_thread t in
        let self = eq-eqb t t refl in
        record {
          stepped = has_sent thread_at o self e.left e.world own_effect e.made sent e.guarantee.sizes;
          clocks = clocks_still thread_at o self e.left e.world own_effect e.made;
          trace = refl;
          steps = λ u m. steps_as_long thread_at o self e.left e.world own_effect e.made sent u m;
          far_steps = λ d u ne. far_steps_as_long thread_at o self e.left e.world own_effect e.made sent d u ne;
          named = λ names.
              own_linked g none_rests who w x st names (watched_behind sent).machine c t a e.left at_c at_left r s runs_r refl
              (told_by g.program g.stimulus x piece e.world) own_goes e.syncs others_there;
        }

    module _ (w' : Watched) (event : IsEvent w') (wired : AreWired g who_on w'.machine e.world)
        (alone : (transfer : Transfer) → e.transfer ≡ Some transfer → HasAlone e.world.branches transfer.channel transfer.side r.branch)
        (stand : RunsBranch g s (may_rest' c t) None e.left e.world (w'.lives c t) (told_by g.program g.stimulus x piece e.world).actions
        e.next) where
      own_stand : (u : ℕ) → only_thread t u ≡ true →
          ThreadRel g (may_rest' c u) e.left e.world (w'.lives c u) (told_by g.program g.stimulus x piece e.world).actions (who_on c u)
      own_stand u m =
          let actions = (told_by g.program g.stimulus x piece e.world).actions in
          let at : u ≡ t = eqb-true u t m in
          subst (λ k. ThreadRel g (may_rest' c k) e.left e.world (w'.lives c k) actions (who_on c k)) (sym at)
          (subst (ThreadRel g (may_rest' c t) e.left e.world (w'.lives c t) actions) (sym (role_here who c t (used_by s None)))
          (subst (λ o. SomeIs o (RunsBranch g s (may_rest' c t) None e.left e.world (w'.lives c t) actions)) (sym own_branch) stand))

      own_alone : (u : ℕ) (i : Runner) (hand : Option Acquired) (transfer : Transfer) → only_thread t u ≡ true → who_on c u ≡ used_by i hand → i.transfer ≡ Some transfer → HasAlone e.world.branches transfer.channel transfer.side i.branch
      own_alone u i hand transfer m at its =
          let same : s ≡ i = same_runner s i None hand (sym (role_here who c t (used_by s None)) ∙ ap (who_on c) (sym (eqb-true u t m)) ∙ at) in
          subst (λ (k : Runner). HasAlone e.world.branches transfer.channel transfer.side k.branch) same
          (alone transfer (ap (λ (k : Runner). k.transfer) same ∙ its))

      -- so the two sides stand so again behind it
      pub event_stands : MatchStates g may_rest' who_on w' (told_by g.program g.stimulus x piece e.world)
      event_stands =
          let o = only_thread t in
          let self = eq-eqb t t refl in
          answered thread_at o self e.left e.world own_effect may_rest' who_on w' piece event.stepped
          (record {
            acted = all_acted;
            clocks = event.clocks;
            trace = event.trace ∙ ap (λ l. noted l e.made) st.trace ∙ sym e.is_next.trace;
            roles = roles_go_on g who c t st.roles r None runs_r s None (record { seated = seated; held = refl; sync = λ n f. inl f; branches = λ n m. inl m });
            reserves = reserves_of_others g who e.world (reserves_behind g who x.state st.lawful st.reserves piece e.world all_acted) who_on gives_as_before;
            used = used_on g who c t st.roles r None runs_r a e.left (st.used c a at_c) s None others_used
                (λ n taken. inr (ap (λ l. slice_get l n) (sym e.syncs) ∙ taken, λ owns. owns))
                (λ n owns. ap (λ l. slice_get l n) e.syncs ∙ (st.used c a at_c).owned t n r None runs_r owns)
                (λ n u f m. absurd m);
            same_role = same_role (used_by s None);
            far_role = λ d u ne. role_far who c t (used_by s None) d u ne;
            rests = λ u m none. absurd (false_true none);
            far_rests = λ d u ne none. absurd (false_true none);
            steps = event.steps;
            far_steps = event.far_steps;
            stand = own_stand;
            wired = wired;
            alone = own_alone;
            loose = loose_on;
            roots = own_roots;
            far_roots = own_far_roots;
            placed = own_placed;
            run = run_on;
            made = own_made;
          })
        where
          false_true : false ≡ true → ⊥
          false_true f = cc

      pub event_follows : Follows g may_rest' who w x w'
      event_follows = record {
        who = who_on;
        piece = piece;
        world = e.world;
        acted = all_acted;
        standing = event_stands;
        named = event.named;
      }

    pub goes_on_answered : AreWired g who_on watched_on.machine e.world →
        ((transfer : Transfer) → e.transfer ≡ Some transfer → HasAlone e.world.branches transfer.channel transfer.side r.branch) →
        RunsBranch g s (may_rest' c t) None e.left e.world (watched_on.lives c t) (told_by g.program g.stimulus x piece e.world).actions e.next →
        Follows g may_rest' who w x watched_on
    goes_on_answered wired alone stand = event_follows watched_on (is_step []) wired alone stand
