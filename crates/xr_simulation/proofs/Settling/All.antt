-- Where threads of a core may be at rest, a piece of the program's run leads to where none is, with the machine as it is: one thread settles
-- after the other.
use Rattle.std.proofs.Common.{◌≡◌, ℕ, zero, suc, ◌+◌, ◌<◌, ◌≤◌, ◌≢◌, ◌⊎◌, inl, inr, [], ◌∷◌, ◌++◌, List, Option, Some, None, refl, sym, ap, ◌∙◌, subst, ⊎_elim, arith, eq-eqb}
use Rattle.std.proofs.lemmas.Bool.{and_from, and_parts, cases_eq, eqb-true, lt-ltb, ltb-true}
use Rattle.std.proofs.lemmas.Option.{same_Some}
use Rattle.std.specs.Prelude.{Bool, true, false, ◌&&◌, nat_eq, nat_lt, slice_get}
use Rattle.xs_instr.specs.declared.image.Stim.{Stim}
use Rattle.xs_instr.specs.declared.state.CoreState.{CoreState}
use Rattle.xc_kernel.specs.Plain as kernel
use Rattle.xc_meaning.proofs.Simulation.Theorem.{moves_append}
use Rattle.xc_meaning.specs.Counts.Families.{steps_of}
use Rattle.xc_meaning.specs.Runs.{acts, acts_all}
use Rattle.xc_meaning.specs.States.Branches.{Branch, Mode, ended, erred, runs, waits}
use Rattle.xc_meaning.specs.States.Items.{Item}
use Rattle.xc_meaning.specs.States.Worlds.{Action, World}
use Rattle.xl_par.specs.Acquired.{Acquired}
use Rattle.xr_match.specs.Lives.{Life, Watched}
use Rattle.xr_match.specs.Meanings.{of_kernel}
use Rattle.xr_match.specs.Sources.{Counted}
use Rattle.xr_match.specs.Systems.{SomeIs}
use Rattle.xr_simulation.specs.Images.{IsImageOf}
use Rattle.xr_simulation.specs.Roles.{Role, Roles, got_by, unused, used_by}
use Rattle.xr_simulation.specs.Runners.{Runner, Setting}
use Rattle.xr_simulation.specs.ThreadViews.{Rely, ThreadView}
use Rattle.xr_simulation.specs.Settled.{IsOwn}
use Rattle.xr_simulation.specs.MatchStates.{IsAtRest, RunsBranch, MatchStates, ThreadRel, ProgressBy, ProgressWith, none_rests}
use Rattle.xr_simulation.specs.Transfers.{Transfer}
use Rattle.xr_simulation.proofs.Relation.Moments.{branch_of, moment_of, thread_of}
use Rattle.xr_simulation.proofs.Relation.CoreSteps.{kept_now, stands_at}
use Rattle.xr_simulation.proofs.Settling.Cases.{goes_its_way, settles_one}
use Rattle.xr_simulation.specs.Living.{AreNamed}
use Rattle.xr_simulation.proofs.Lives.Families.{grown_same}
use Rattle.xr_simulation.proofs.Lives.Links.{alike_linked, told_same}
use Rattle.xr_simulation.proofs.Lives.Pieces.{goes_on}
use Rattle.xr_simulation.proofs.Channels.NoneInside.{Settles}
use Rattle.xr_simulation.proofs.Relation.Lasting.{Follows, core_at, runner_still, told_by}
use Rattle.xr_simulation.proofs.OwnSteps.Branch.{some_is}
use Rattle.xr_simulation.proofs.Settling.Weights.{HasNone, own_or_none, thread_weight}

-- nothing is done where the run has stopped
none_acts : (K : kernel.Kernel) (s : Stim) (piece : List Action) → acts_all K s None piece ≡ None
none_acts K s [] = refl
none_acts K s (m ∷ piece) = none_acts K s piece

-- the steps of two pieces
steps_append : (K : kernel.Kernel) (s : Stim) (f : ℕ) (o : Option World) (piece others : List Action) → steps_of K s f o (piece ++ others) ≡ steps_of K s f o piece + steps_of K s f (acts_all K s o piece) others
steps_append K s f None piece others = let none : steps_of K s f (acts_all K s None piece) others ≡ 0 = ap (λ o. steps_of K s f o others) (none_acts K s piece) in omega (arith, none)
steps_append K s f (Some x) [] others = omega arith
steps_append K s f (Some x) (m ∷ piece) others = let on = steps_append K s f (acts K s x m) piece others in omega (arith, on)

-- A thread stands as well where others may be at rest, if it isn't at rest.
by_transfer : (g : Setting) (r : Runner) (rests : Bool) (transfer : Option Transfer) (items : List Item) (left : ℕ) (z : ThreadView) →
    ProgressWith g r rests transfer items left z →
    ((rests' : Bool) → ProgressWith g r rests' transfer items left z) ⊎ ((rests ≡ true) × (transfer ≡ None) × IsAtRest g r items left z)
by_transfer g r rests None items left z (inl h) = inl (λ b. inl h)
by_transfer g r rests None items left z (inr (inl h)) = inl (λ b. inr (inl h))
by_transfer g r true None items left z (inr (inr h)) = inr (refl, refl, h)
by_transfer g r false None items left z (inr (inr h)) = absurd h
by_transfer g r rests (Some transfer) items left z h = inl (λ b. h)

-- then it runs a branch, and is in no transfer
by_cases : (g : Setting) (r : Runner) (rests : Bool) (items : List Item) (m : Mode) (left : ℕ) (z : ThreadView) →
    ProgressBy g r rests items m left z →
    ((rests' : Bool) → ProgressBy g r rests' items m left z) ⊎ ((rests ≡ true) × (m ≡ runs) × (r.transfer ≡ None) × IsAtRest g r items left z)
by_cases g r rests items runs left z h =
    ⊎_elim
    (λ (by : (rests' : Bool) → ProgressWith g r rests' r.transfer items left z). inl by)
    (λ at_rest. inr (at_rest.0, refl, at_rest.1, at_rest.2))
    (by_transfer g r rests r.transfer items left z h)
by_cases g r rests items (waits from count) left z h = absurd h
by_cases g r rests items ended left z h = inl (λ b. h)
by_cases g r rests items erred left z h = inl (λ b. h)

-- the thread stands where it is, by other means
stands_otherwise : (g : Setting) (r : Runner) (rests rests' : Bool) (hand : Option Acquired) (a : CoreState) (x : World) (life : Life) (actions : ℕ → ℕ) (branch : Branch) → (h : RunsBranch g r rests hand a x life actions branch) →
    ProgressBy g r rests' branch.items branch.mode h.left (record { core = a; world = x; hand = hand }) → RunsBranch g r rests' hand a x life actions branch
stands_otherwise g r rests rests' hand a x life actions branch h by = record {
  core = h.core;
  family = h.family;
  footprint = h.footprint;
  parents = h.parents;
  thread = h.thread;
  in_hand = h.in_hand;
  sides = h.sides;
  inside = h.inside;
  done = h.done;
  stops = h.stops;
  ends_tied = h.ends_tied;
  left = h.left;
  bound = h.bound;
  by = by;
}

-- a role's thread stands as before, where it may rest if it might, and families may have done more
role_as : (g : Setting) (rests rests' : Bool) (a : CoreState) (x : World) (life : Life) (actions more : ℕ → ℕ) (role : Role) → ((s : Runner) (hand : Option Acquired) → role ≡ used_by s hand → rests ≡ true → rests' ≡ true) →
    ((s : Runner) (hand : Option Acquired) → role ≡ used_by s hand →
    Rely g s (record { core = a; world = x; hand = hand }) (record { core = a; world = x; hand = hand })) →
    ((f : ℕ) → actions f ≤ more f) →
    ThreadRel g rests a x life actions role → ThreadRel g rests' a x life more role
role_as g rests rests' a x life actions more unused may k le h = h
role_as g rests rests' a x life actions more (got_by t) may k le h = h
role_as g rests rests' a x life actions more (used_by s hand) may k le h = runner_still g s rests rests' hand a a x x life life actions more (may s hand refl) (k s hand refl) refl le h

module _ (g : Setting) (first : Roles) (is : IsImageOf g first) (w : Watched) where
  module _ (may_rest may_rest' : (core thread : ℕ) → Bool) (who : Roles) (x : Counted (of_kernel g.program)) (st : MatchStates g may_rest who w x) where
    -- the threads alone are to be shown
    standing_by : (more : ℕ → ℕ) → ((i u : ℕ) (e : CoreState) → slice_get w.machine.cores i ≡ Some e → ThreadRel g (may_rest' i u) e x.state (w.lives i u) more (who i u)) → MatchStates g may_rest' who w (record { state = x.state; actions = more })
    standing_by more threads = record {
      clocks = st.clocks;
      trace = st.trace;
      cores = st.cores;
      lawful = st.lawful;
      plain = st.plain;
      roles = st.roles;
      reserves = st.reserves;
      used = st.used;
      threads = threads;
      loose = st.loose;
      sizes = st.sizes;
      wired = st.wired;
      alone = st.alone;
      roots = st.roots;
      placed = st.placed;
      run = st.run;
      made = st.made;
    }

    one_as : (more : ℕ → ℕ) → ((f : ℕ) → x.actions f ≤ more f) → (i u : ℕ) (e : CoreState) → slice_get w.machine.cores i ≡ Some e → ((s : Runner) (hand : Option Acquired) → who i u ≡ used_by s hand → may_rest i u ≡ true → may_rest' i u ≡ true) →
        ThreadRel g (may_rest' i u) e x.state (w.lives i u) more (who i u)
    one_as more le i u e at rests =
        role_as g (may_rest i u) (may_rest' i u) e x.state (w.lives i u) x.actions more (who i u) rests
        (λ s hand runs_s. kept_now (moment_of g first is who w x st) i u e s hand at runs_s) le (st.threads i u e at)

    -- more may be at rest, and families may have done more
    pub standing_as : (more : ℕ → ℕ) → ((f : ℕ) → x.actions f ≤ more f) → ((i u : ℕ) (s : Runner) (hand : Option Acquired) → who i u ≡ used_by s hand → may_rest i u ≡ true → may_rest' i u ≡ true) →
        MatchStates g may_rest' who w (record { state = x.state; actions = more })
    standing_as more le rests = standing_by more (λ i u e at. one_as more le i u e at (rests i u))

    -- one thread isn't at rest
    module _ (c t : ℕ) (r : Runner) (hand : Option Acquired) (runs_r : who c t ≡ used_by r hand) (rests : (i u : ℕ) → ((i ≡ c) × (u ≡ t) → ⊥) → may_rest i u ≡ true → may_rest' i u ≡ true)
        (branch : Branch) (known : slice_get x.state.branches r.branch ≡ Some branch)
        (calm : (e : CoreState) → slice_get w.machine.cores c ≡ Some e → RunsBranch g r (may_rest' c t) hand e x.state (w.lives c t) x.actions branch) where
      calm_stands : (e : CoreState) → slice_get w.machine.cores c ≡ Some e → ThreadRel g (may_rest' c t) e x.state (w.lives c t) x.actions (who c t)
      calm_stands e at =
          subst (ThreadRel g (may_rest' c t) e x.state (w.lives c t) x.actions) (sym runs_r)
          (subst (λ o. SomeIs o (RunsBranch g r (may_rest' c t) hand e x.state (w.lives c t) x.actions)) (sym known) (calm e at))

      calm_threads : (i u : ℕ) (e : CoreState) → slice_get w.machine.cores i ≡ Some e → ThreadRel g (may_rest' i u) e x.state (w.lives i u) x.actions (who i u)
      calm_threads i u e at =
          ⊎_elim
          (λ (here : i ≡ c).
          ⊎_elim
          (λ (this : u ≡ t).
          subst (λ k. ThreadRel g (may_rest' k u) e x.state (w.lives k u) x.actions (who k u)) (sym here)
          (subst (λ k. ThreadRel g (may_rest' c k) e x.state (w.lives c k) x.actions (who c k)) (sym this) (calm_stands e (subst (λ k. slice_get w.machine.cores k ≡ Some e) here at))))
          (λ (ne : u ≢ t). one_as x.actions (λ f. omega arith) i u e at (λ s other runs_s. rests i u (λ h. ne h.1)))
          (cases_eq u t))
          (λ (ne : i ≢ c). one_as x.actions (λ f. omega arith) i u e at (λ s other runs_s. rests i u (λ h. ne h.0)))
          (cases_eq i c)

      standing_calm : MatchStates g may_rest' who w x
      standing_calm = standing_by x.actions calm_threads

  -- where no item is done
  pub nothing_follows : (may_rest' : (core thread : ℕ) → Bool) (who : Roles) (x : Counted (of_kernel g.program)) → MatchStates g may_rest' who w x → Follows g may_rest' who w x w
  nothing_follows may_rest' who x st = record {
    who = who;
    piece = [];
    world = x.state;
    acted = refl;
    standing = standing_as may_rest' may_rest' who x st (told_by g.program g.stimulus x [] x.state).actions (λ f. omega arith) (λ i u s hand runs_s may. may);
    named = λ names. alike_linked g may_rest' who w x st names w (told_by g.program g.stimulus x [] x.state) (told_same g x [] x.state refl) (λ d u. refl);
  }

  -- then none gets into a transfer
  pub nothing_settles : (may_rest' : (core thread : ℕ) → Bool) (who : Roles) (x : Counted (of_kernel g.program)) → MatchStates g may_rest' who w x → Settles g may_rest' who w x w
  unfolding nothing_follows
  nothing_settles may_rest' who x st = record { follows = nothing_follows may_rest' who x st; none_inside = λ none. none }

  -- one piece after another
  pub follows_after : (may_rest' : (core thread : ℕ) → Bool) (old who : Roles) (before : Watched) (x : Counted (of_kernel g.program)) (piece : List Action) (y : World) → acts_all g.program g.stimulus (Some x.state) piece ≡ Some y →
      (between : Watched) → (AreNamed g old before x → AreNamed g who between (told_by g.program g.stimulus x piece y)) →
      Follows g may_rest' who between (told_by g.program g.stimulus x piece y) w → Follows g may_rest' old before x w
  follows_after may_rest' old who before x piece y acted between named q = record {
    who = q.who;
    piece = piece ++ q.piece;
    world = q.world;
    acted = moves_append g.program g.stimulus (Some x.state) piece q.piece ∙ ap (λ o. acts_all g.program g.stimulus o q.piece) acted ∙ q.acted;
    standing =
        standing_as may_rest' may_rest' q.who (told_by g.program g.stimulus (told_by g.program g.stimulus x piece y) q.piece q.world) q.standing
        (told_by g.program g.stimulus x (piece ++ q.piece) q.world).actions
        together (λ i u s hand runs_s may. may);
    named = λ names.
        let later = told_by g.program g.stimulus (told_by g.program g.stimulus x piece y) q.piece q.world in
        let both = told_by g.program g.stimulus x (piece ++ q.piece) q.world in
        alike_linked g may_rest' q.who w later q.standing (q.named (named names)) w both (goes_on g later both together (grown_same q.world.branches)) (λ d u. refl);
  }
    where
      together : (f : ℕ) → (told_by g.program g.stimulus (told_by g.program g.stimulus x piece y) q.piece q.world).actions f ≤ (told_by g.program g.stimulus x (piece ++ q.piece) q.world).actions f
      together f =
          let both = steps_append g.program g.stimulus f (Some x.state) piece q.piece in
          let later : steps_of g.program g.stimulus f (acts_all g.program g.stimulus (Some x.state) piece) q.piece ≡ steps_of g.program g.stimulus f (Some y) q.piece = ap (λ o. steps_of g.program g.stimulus f o q.piece) acted in
          omega (arith, both, later)

  -- one thread settles after the other
  pub settles_after : (may_rest may_rest' : (core thread : ℕ) → Bool) (old : Roles) (x : Counted (of_kernel g.program)) (q : Settles g may_rest old w x w) →
      Settles g may_rest' q.follows.who w (told_by g.program g.stimulus x q.follows.piece q.follows.world) w → Settles g may_rest' old w x w
  unfolding follows_after
  settles_after may_rest may_rest' old x q next = record {
    follows = follows_after may_rest' old q.follows.who w x q.follows.piece q.follows.world q.follows.acted w q.follows.named next.follows;
    none_inside = λ none. next.none_inside (q.none_inside none);
  }

  -- 1. One thread.
  module _ (may_rest may_rest' : (core thread : ℕ) → Bool) (c t : ℕ) (a : CoreState) (at_c : slice_get w.machine.cores c ≡ Some a) (rests : (i u : ℕ) → ((i ≡ c) × (u ≡ t) → ⊥) → may_rest i u ≡ true → may_rest' i u ≡ true) where
    this_core : (e : CoreState) → slice_get w.machine.cores c ≡ Some e → a ≡ e
    this_core e at = same_Some a e (sym at_c ∙ at)

    -- it isn't at rest
    calm_settles : (who : Roles) (x : Counted (of_kernel g.program)) → MatchStates g may_rest who w x → (r : Runner) (hand : Option Acquired) → who c t ≡ used_by r hand → (branch : Branch) → slice_get x.state.branches r.branch ≡ Some branch →
        (stand : RunsBranch g r (may_rest c t) hand a x.state (w.lives c t) x.actions branch) → ((b : Bool) → ProgressBy g r b branch.items branch.mode stand.left (record { core = a; world = x.state; hand = hand })) → Settles g may_rest' who w x w
    calm_settles who x st r hand runs_r branch known stand by =
        nothing_settles may_rest' who x
        (standing_calm may_rest may_rest' who x st c t r hand runs_r rests branch known (λ e at.
        subst (λ k. RunsBranch g r (may_rest' c t) hand k x.state (w.lives c t) x.actions branch) (this_core e at)
        (stands_otherwise g r (may_rest c t) (may_rest' c t) hand a x.state (w.lives c t) x.actions branch stand (by (may_rest' c t)))))

    stand_of : (who : Roles) (x : Counted (of_kernel g.program)) → MatchStates g may_rest who w x → (r : Runner) (hand : Option Acquired) → who c t ≡ used_by r hand → (branch : Branch) → slice_get x.state.branches r.branch ≡ Some branch →
        RunsBranch g r (may_rest c t) hand a x.state (w.lives c t) x.actions branch
    stand_of who x st r hand runs_r branch known =
        subst (λ o. SomeIs o (RunsBranch g r (may_rest c t) hand a x.state (w.lives c t) x.actions)) known
        (stands_at (moment_of g first is who w x st) c t a r hand at_c runs_r)

    -- by how much it may do without an instruction
    settle_at : (n : ℕ) (who : Roles) (x : Counted (of_kernel g.program)) → MatchStates g may_rest who w x → (r : Runner) → who c t ≡ used_by r None → (branch : Branch) → slice_get x.state.branches r.branch ≡ Some branch →
        thread_weight r.parents branch.items < n → Settles g may_rest' who w x w
    settle_at zero who x st r runs_r branch known lt = absurd (let z : ⊥ = omega (arith, lt) in z)
    settle_at (suc n) who x st r runs_r branch known lt =
        let stand = stand_of who x st r None runs_r branch known in
        let here = branch_of (thread_of (moment_of g first is who w x st) c t a at_c r None runs_r) branch known stand in
        ⊎_elim
        (λ (by : (b : Bool) → ProgressBy g r b branch.items branch.mode stand.left (record { core = a; world = x.state; hand = None })). calm_settles who x st r None runs_r branch known stand by)
        (λ at_rest.
        let rest = at_rest.3 in
        ⊎_elim
        (λ (own : IsOwn r.parents branch.items). goes_its_way here at_rest.1 at_rest.2 rest.0 rest.1 branch.items refl rest.3 own
        may_rest' rests)
        (λ (none : HasNone r.parents branch.items).
        let q = settles_one here at_rest.1 at_rest.2 rest.0 rest.1 branch.items refl rest.3 at_rest.0 branch.items refl none in
        let settled : Settles g may_rest who w x w = record {
          follows = record { who = q.who; piece = q.piece; world = q.world; acted = q.acted; standing = q.standing; named = q.named };
          none_inside = q.none_inside;
        } in
        settles_after may_rest may_rest' who x settled
        (settle_at n q.who (told_by g.program g.stimulus x q.piece q.world) q.standing q.runner q.runs_there q.next q.known (let lighter = q.lighter in omega (arith, lt, lighter))))
        (own_or_none r.parents branch.items))
        (by_cases g r (may_rest c t) branch.items branch.mode stand.left (record { core = a; world = x.state; hand = None }) stand.by)

    -- whatever its role is
    pub thread_settles : (who : Roles) (x : Counted (of_kernel g.program)) → MatchStates g may_rest who w x → (role : Role) → who c t ≡ role → Settles g may_rest' who w x w
    thread_settles who x st (used_by r hand) e =
        let there = some_is (RunsBranch g r (may_rest c t) hand a x.state (w.lives c t) x.actions) (slice_get x.state.branches r.branch)
        (stands_at (moment_of g first is who w x st) c t a r hand at_c e) in
        let branch = there.0 in
        let stand = there.2 in
        ⊎_elim
        (λ (by : (b : Bool) → ProgressBy g r b branch.items branch.mode stand.left (record { core = a; world = x.state; hand = hand })). calm_settles who x st r hand e branch there.1 stand by)
        (λ at_rest. settle_at (suc (thread_weight r.parents branch.items)) who x st r (e ∙ ap (used_by r) at_rest.3.2) branch there.1 (omega arith))
        (by_cases g r (may_rest c t) branch.items branch.mode stand.left (record { core = a; world = x.state; hand = hand }) stand.by)
    thread_settles who x st unused e =
        nothing_settles may_rest' who x (standing_as may_rest may_rest' who x st x.actions (λ f. omega arith) (λ i u s hand runs_s. rests i u (λ h.
        let both : unused ≡ used_by s hand = sym e ∙ sym (ap (λ k. who k u) h.0 ∙ ap (who c) h.1) ∙ runs_s in
        let z : ⊥ = cc in
        z)))
    thread_settles who x st (got_by k) e =
        nothing_settles may_rest' who x (standing_as may_rest may_rest' who x st x.actions (λ f. omega arith) (λ i u s hand runs_s. rests i u (λ h.
        let both : got_by k ≡ used_by s hand = sym e ∙ sym (ap (λ k. who k u) h.0 ∙ ap (who c) h.1) ∙ runs_s in
        let z : ⊥ = cc in
        z)))

  -- 2. All of a core.

  -- the threads below one may be at rest
  abbrev rests_below : (c n i u : ℕ) → Bool
  rests_below c n i u = nat_eq i c && nat_lt u n

  not_below_zero : (c i u : ℕ) → rests_below c 0 i u ≡ true → ⊥
  not_below_zero c i u may =
      let lt = ltb-true u 0 (and_parts (nat_eq i c) (nat_lt u 0) may).1 in
      omega (arith, lt)

  below_others : (c n i u : ℕ) → ((i ≡ c) × (u ≡ n) → ⊥) → rests_below c (suc n) i u ≡ true → rests_below c n i u ≡ true
  below_others c n i u ne may =
      let parts = and_parts (nat_eq i c) (nat_lt u (suc n)) may in
      let here = eqb-true i c parts.0 in
      let lt = ltb-true u (suc n) parts.1 in
      ⊎_elim
      (λ (e : u ≡ n). absurd (ne (here, e)))
      (λ (other : u ≢ n). and_from (nat_eq i c) (nat_lt u n) parts.0 (lt-ltb u n (less lt other)))
      (cases_eq u n)
    where
      less : u < suc n → u ≢ n → u < n
      less lt other = omega (arith, lt, other)

  settle_below : (c : ℕ) (a : CoreState) → slice_get w.machine.cores c ≡ Some a → (n : ℕ) (who : Roles) (x : Counted (of_kernel g.program)) → MatchStates g (rests_below c n) who w x → Settles g none_rests who w x w
  settle_below c a at_c zero who x st =
      nothing_settles none_rests who x (standing_as (rests_below c 0) none_rests who x st x.actions (λ f. omega arith) (λ i u s hand runs_s may. absurd (not_below_zero c i u may)))
  settle_below c a at_c (suc n) who x st =
      let q = thread_settles (rests_below c (suc n)) (rests_below c n) c n a at_c (below_others c n) who x st (who c n) refl in
      settles_after (rests_below c n) none_rests who x q (settle_below c a at_c n q.follows.who (told_by g.program g.stimulus x q.follows.piece q.follows.world) q.follows.standing)

  -- Where threads of one core alone may be at rest, the program leads to where nobody is.
  pub settles : (may_rest : (core thread : ℕ) → Bool) (who : Roles) (x : Counted (of_kernel g.program)) (c : ℕ) → c < 4 → ((i u : ℕ) → i ≢ c → may_rest i u ≡ false) → MatchStates g may_rest who w x → Settles g none_rests who w x w
  settles may_rest who x c lt others st =
      let at = core_at w.machine.cores c (let four = st.cores in omega (arith, lt, four)) in
      settle_below c at.0 at.1 8 who x
      (standing_as may_rest (rests_below c 8) who x st x.actions (λ f. omega arith) (λ i u s hand runs_s may.
      ⊎_elim
      (λ (here : i ≡ c). and_from (nat_eq i c) (nat_lt u 8) (eq-eqb i c here) (lt-ltb u 8 (st.roles.few i u (λ e. used_so s hand (sym runs_s ∙ e)))))
      (λ (ne : i ≢ c). let both : false ≡ true = sym (others i u ne) ∙ may in absurd (let z : ⊥ = cc in z))
      (cases_eq i c)))
    where
      used_so : (s : Runner) (hand : Option Acquired) → used_by s hand ≡ unused → ⊥
      used_so s hand e = cc

  -- so behind an event, where threads of its core may be at rest
  pub settles_behind : (old : Roles) (before : Watched) (may_rest : (core thread : ℕ) → Bool) (x : Counted (of_kernel g.program)) (c : ℕ) → c < 4 → ((i u : ℕ) → i ≢ c → may_rest i u ≡ false) → Follows g may_rest old before x w → Follows g none_rests old before x w
  settles_behind old before may_rest x c lt others q = follows_after none_rests old q.who before x q.piece q.world q.acted w q.named (settles may_rest q.who (told_by g.program g.stimulus x q.piece q.world) c lt others q.standing).follows
