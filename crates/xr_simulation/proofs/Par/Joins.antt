-- The branches of a `par` are joined: their threads are unused again, and their maker goes on.
use Rattle.std.proofs.Common.{◌≡◌, ◌≢◌, ◌⊎◌, ℕ, ◌+◌, ◌-◌, ◌*◌, ◌<◌, ◌≤◌, Bool, true, false, List, [], ◌∷◌, length, Option, Some, None, option_map, refl, sym, ap, ◌∙◌, subst, inl, inr, ⊎_elim, arith, eq-eqb}
use Rattle.std.specs.Prelude.{nat_eq, not, slice_get, slice_set, ◌&&◌, ◌||◌}
use Rattle.std.proofs.lemmas.Bool.{cases_eq, ne_eqb, or_left, or_right}
use Rattle.std.proofs.lemmas.List.{length-set}
use Rattle.std.proofs.lemmas.Option.{same_Some, slice_get_within}
use Rattle.xs_instr.specs.declared.state.CoreState.{CoreState}
use Rattle.xs_instr.specs.declared.state.Thread.{Thread}
use Rattle.xs_instr.specs.Did.{makes}
use Rattle.xs_instr.specs.OwnSteps.{temporary}
use Rattle.xs_instr.specs.Pool.{all_joined, all_wait, is_tied, joined_by, some_tied}
use Rattle.xs_instr.specs.Rows.{goes_on as row_goes_on, put_syncs, put_threads}
use Rattle.xs_instr.specs.Slot.{slot}
use Rattle.xc_disjoint.specs.Needs.{threads_on}
use Rattle.xc_invariants.specs.Tree.{IsChild, IsForest}
use Rattle.xc_meaning.specs.Counts.Families.{counted_for, family_of_branch, one_if, steps_of}
use Rattle.xc_meaning.specs.Counts.KernelCounts.{greatest_count, kernel_bound}
use Rattle.xc_meaning.specs.Runs.{acts, acts_all}
use Rattle.xc_meaning.specs.Settings.Par.{all_done, is_done}
use Rattle.xc_meaning.specs.States.Branches.{Branch, Mode, ended, erred, has_ended, runs, waits}
use Rattle.xc_meaning.specs.States.Items.{Item}
use Rattle.xc_meaning.specs.States.Worlds.{World, Action, go}
use Rattle.xl_expr.proofs.Lists.{get_set_other, get_set_same}
use Rattle.xl_expr.proofs.ResourceParts.{others_same}
use Rattle.xl_par.specs.Acquired.{Acquired, IsAmong}
use Rattle.xr_match.specs.Lives.{Life, Watched}
use Rattle.xr_match.specs.Systems.{SomeIs}
use Rattle.xr_simulation.specs.Items.{EndAt, ItemsAt}
use Rattle.xr_simulation.specs.Parents.{Parent, branches_of, syncs_of}
use Rattle.xr_simulation.specs.Roles.{AreRoles, AreUsedSo, HasReserves, ParentsWait, Role, Roles, gives_back, got_by, outermost, own_branches, unused, used_by}
use Rattle.xr_simulation.specs.Runners.{Footprint, Setting, Runner, code, footprint_of, home, plan}
use Rattle.xr_simulation.specs.Sizes.{Sizes}
use Rattle.xr_simulation.specs.ThreadViews.{Owns, giving_back, held_in, running, sync_in}
use Rattle.xr_simulation.specs.MatchStates.{AreLoose, EventsAre, HasEnded, IsMade, IsRun, RunsBranch, ThreadRel, ProgressBy, counts, is_of_root, living_on, none_rests, one_where}
use Rattle.xr_simulation.specs.Transfers.{Transfer}
use Rattle.xr_simulation.specs.NextStep.{GivesBack, Has, IsFree, IsWaitingTied, JoinsAt, cost, is_watching}
use Rattle.xr_simulation.proofs.RelyGuarantee.Apartness.{room_of_role}
use Rattle.xr_simulation.proofs.Relation.Counts.{living_after}
use Rattle.xr_simulation.proofs.Par.JoinDecision.{Runs, done_each, ended_waits, hand_has_sync, runs_at_thread, tied_began, together, waits_where}
use Rattle.xr_simulation.proofs.RelyGuarantee.Holding.{HaveEnded, holds_behind, ports_behind}
use Rattle.xr_simulation.proofs.Par.JoinRoles as roles_after
use Rattle.xr_simulation.proofs.Par.JoinRoles.{joins, own, roles_join}
use Rattle.xr_simulation.proofs.Lives.OwnLife.{own_life}
use Rattle.xr_simulation.proofs.Relation.Moments.{Moment, ThreadAt}
use Rattle.xr_simulation.proofs.Relation.CoreSteps.{Effect, same_hand, same_runner, works_at}
use Rattle.xr_simulation.proofs.Par.Worlds.{join_acts, joined}
use Rattle.xr_simulation.proofs.Relation.Pools.{joined_at, joined_length, joined_one, joined_other, num_is, num_same}
use Rattle.xr_simulation.proofs.Relation.Reserves.{GivesOneMore, reserves_behind, reserves_of_one_more}
use Rattle.xr_simulation.proofs.OwnSteps.Events.{bound_grows, rests_alone, rests_there}
use Rattle.xr_simulation.proofs.RelyGuarantee.Footprints.{fits_here}
use Rattle.xr_simulation.proofs.Lives.Links.{joins_linked, told_one}
use Rattle.xr_simulation.proofs.Relation.Lasting.{Follows, parents_still, told_by}
use Rattle.xr_simulation.proofs.Relation.Events.{answered, clocks_still, far_steps_still, has_stepped, steps_still, watched}
use Rattle.xr_simulation.proofs.RelyGuarantee.Events.{items_unwatched}
use Rattle.xr_simulation.proofs.Channels.Wiring.{TransfersAsBefore, wired_still}

-- branches that wait stand before the first of their `par`
pub parents_below : (g : Setting) (x : World) (roots core family : ℕ) (forest : IsForest roots x.branches) (ps : List Parent) (first : ℕ) → ParentsWait g x core family ps first → (b : ℕ) → IsAmong (branches_of ps) b → b < first
parents_below g x roots core family forest [] first h b m = absurd m
parents_below g x roots core family forest (p ∷ ps) first h b m =
    let less = (forest.family p.branch p.branch h.0.branch p.from p.count h.0.known h.0.mode).0 in
    let is = h.0.first_is in
    ⊎_elim
    (λ (e : b ≡ p.branch). omega (arith, less, is, e))
    (λ (further : IsAmong (branches_of ps) b). let lt = parents_below g x roots core family forest ps p.branch h.1 b further in omega (arith, lt, less, is))
    m

pub outermost_below : (g : Setting) (x : World) (roots core family : ℕ) (forest : IsForest roots x.branches) (ps : List Parent) (first : ℕ) → ParentsWait g x core family ps first → outermost first ps ≤ first
outermost_below g x roots core family forest [] first h = omega arith
outermost_below g x roots core family forest (p ∷ ps) first h =
    let less = (forest.family p.branch p.branch h.0.branch p.from p.count h.0.known h.0.mode).0 in
    let is = h.0.first_is in
    let on = outermost_below g x roots core family forest ps p.branch h.1 in
    omega (arith, less, is, on)

module _ {moment : Moment none_rests} (thread_at : ThreadAt moment None)
    (p : Parent) (ps : List Parent) (parents : thread_at.runner.parents ≡ p ∷ ps) (n : ℕ) (sync : p.sync ≡ Some n) (branch : Branch)
    (known : slice_get moment.told.state.branches thread_at.runner.branch ≡ Some branch) (mode : branch.mode ≡ ended)
    (wait : all_wait thread_at.state.threads n ≡ true) where
  open moment use {setting as g, first, image as is, roles as who, watched as w, told as x, standing as st}
  open thread_at use {core as c, thread as t, state as a, at_core as at_c, runner as r, runs as runs_r}

  used : AreUsedSo who c a
  used = st.used c a at_c

  forest : IsForest (length g.program.roots) x.state.branches
  forest = st.lawful.forest

  has_done : is_done (slice_get x.state.branches r.branch) ≡ true
  has_done = ap is_done known ∙ ap has_ended mode

  -- all branches of the `par` have ended
  pub all_ended : all_done x.state p.from p.count ≡ true
  all_ended = sym (together g none_rests who w x st c a at_c t n r None p ps runs_r parents sync has_done) ∙ wait

  runs_r_at : Runs g a x.state r None
  runs_r_at = runs_at_thread g none_rests who w x st c a at_c t r None runs_r

  pub chain : ParentsWait g x.state r.core r.family (p ∷ ps) r.branch
  chain = subst (λ l. ParentsWait g x.state r.core r.family l r.branch) parents runs_r_at.parents

  -- a thread that is tied to the synchroniser runs a branch that has ended, for which nobody waits
  pub record IsJoined (u : ℕ) (s : Runner) (other : Option Acquired) : Type 0 where
    pub run : Runs g a x.state s other
    pub no_parents : s.parents ≡ []
    pub over : has_ended run.branch.mode ≡ true

  -- which takes no events
  over_calm : (mode : Mode) (items : List Item) (bit : Bool) → has_ended mode ≡ true → EventsAre mode items bit → bit ≡ false
  over_calm runs items bit over h = absurd (let z : ⊥ = cc in z)
  over_calm (waits from count) items bit over h = absurd h
  over_calm ended items bit over h = h
  over_calm erred items bit over h = absurd (let z : ⊥ = cc in z)

  pub joined_thread : (u : ℕ) (s : Runner) (other : Option Acquired) → who c u ≡ used_by s other → s.tie ≡ Some n → IsJoined u s other
  joined_thread u s other e tie =
      let run = runs_at_thread g none_rests who w x st c a at_c u s other e in
      let k = tied_began g none_rests who w x st c a at_c t n r None p ps runs_r parents sync has_done u s other e tie in
      let done = done_each x.state p.from p.count all_ended k.0 k.2 in
      let waiting = waits_where g none_rests who w x st c a at_c s other (p.from + k.0) u e k.3 run done in
      let h = ended_waits s.parents run.branch.mode run.thread.mode run.is waiting in
      record { run = run; no_parents = h.0; over = h.1 }

  -- with nothing in hand
  bare : (u : ℕ) (s : Runner) (other : Option Acquired) → who c u ≡ used_by s other → s.tie ≡ Some n → (s.parents ≡ []) × (other ≡ None)
  bare u s other e tie = by (slice_get x.state.branches s.branch) refl stands
    where
      j : IsJoined u s other
      j = joined_thread u s other e tie

      stands : ThreadRel g (none_rests c u) a x.state (w.lives c u) x.actions (used_by s other)
      stands = subst (ThreadRel g (none_rests c u) a x.state (w.lives c u) x.actions) e (st.threads c u a at_c)

      mode_is : (m : Mode) → has_ended m ≡ true → m ≡ ended
      mode_is runs h = absurd (let z : ⊥ = cc in z)
      mode_is (waits from count) h = absurd (let z : ⊥ = cc in z)
      mode_is ended h = refl
      mode_is erred h = absurd (let z : ⊥ = cc in z)

      by : (o : Option Branch) → slice_get x.state.branches s.branch ≡ o → SomeIs o (RunsBranch g s (none_rests c u) other a x.state (w.lives c u) x.actions) → (s.parents ≡ []) × (other ≡ None)
      by None f h = absurd h
      by (Some b) f h =
          let same : j.run.branch ≡ b = same_Some j.run.branch b (sym j.run.known ∙ f) in
          let over : b.mode ≡ ended = mode_is b.mode (ap (λ (i : Branch). has_ended i.mode) (sym same) ∙ j.over) in
          let stood = subst (λ m. ProgressBy g s (none_rests c u) b.items m h.left (record { core = a; world = x.state; hand = other })) over h.by in
          (j.no_parents, subst (λ l. HasEnded g s l h.left (record { core = a; world = x.state; hand = other })) j.no_parents stood)

  -- the thread itself isn't among them
  own_tie : r.tie ≡ Some n → ⊥
  own_tie tie =
      let k = tied_began g none_rests who w x st c a at_c t n r None p ps runs_r parents sync has_done t r None runs_r tie in
      let began = st.roles.started c t r None runs_r in
      let le = outermost_below g x.state (length g.program.roots) r.core r.family forest (p ∷ ps) r.branch chain in
      let same : outermost r.branch (p ∷ ps) ≡ r.family = ap (outermost r.branch) (sym parents) ∙ began in
      let from_is = chain.0.first_is in
      let some = k.1 in
      let family = k.3 in
      omega (arith, le, same, from_is, some, family)

  -- who runs what behind that
  abbrev pub who' : Roles
  who' = joins g who c t st.roles r runs_r p ps parents n sync

  abbrev pub maker : Runner
  maker = own g who c t st.roles r runs_r p ps parents n sync

  pub roles' : AreRoles g who'
  roles' = roles_join g who c t st.roles r runs_r p ps parents n sync bare own_tie

  -- each thread that is tied to the synchroniser is one of those
  pub tied_role : (u : ℕ) (thread : Thread) → slice_get a.threads u ≡ Some thread → is_tied thread n ≡ true → (s : Runner) × (other : Option Acquired) × (who c u ≡ used_by s other) × (s.tie ≡ Some n)
  tied_role u thread there tied = by (who c u) refl
    where
      by : (o : Role) → who c u ≡ o → (s : Runner) × (other : Option Acquired) × (who c u ≡ used_by s other) × (s.tie ≡ Some n)
      by unused e =
          let few : u < 8 = let within = slice_get_within a.threads u thread there in let eight = used.threads in omega arith in
          let free = subst IsFree there (used.unused u few e) in
          let clash : None ≡ Some n = sym free.untied ∙ num_is thread.tie n tied in absurd (let z : ⊥ = cc in z)
      by (got_by k) e =
          let h = st.roles.got c u k e in
          let run = runs_at_thread g none_rests who w x st c a at_c k h.0 h.1 h.2 in
          let m = hand_has_sync run.branch.items h.1 u run.in_hand h.3 in
          let waits = subst (IsWaitingTied m.0) there (used.got u k m.0 h.0 h.1 e h.2 m.1) in
          let both : Some m.0 ≡ Some n = sym waits.tied ∙ num_is thread.tie n tied in
          let mine : Owns h.0 h.1 n = inr (m.1 ∙ both) in
          let at : k ≡ t = st.roles.owner c t k n r h.0 None h.1 runs_r h.2 (roles_after.owns_sync g who c t st.roles r runs_r p ps parents n sync) mine in
          let same : used_by h.0 h.1 ≡ used_by r None = sym h.2 ∙ ap (who c) at ∙ runs_r in
          absurd (subst (λ hand. IsAmong (held_in hand) u) (same_hand h.0 r h.1 None same) h.3)
      by (used_by s other) e =
          let run = runs_at_thread g none_rests who w x st c a at_c u s other e in
          let same : thread ≡ run.thread = same_Some thread run.thread (sym there ∙ ap (slice_get a.threads) (sym (st.roles.thread c u s other e)) ∙ run.there) in
          (s, other, e, sym run.tied ∙ ap (λ (i : Thread). i.tie) (sym same) ∙ num_is thread.tie n tied)

  module _ (j : ℕ) (stand : RunsBranch g r false None a x.state (w.lives c t) x.actions branch) (few : j ≤ stand.left) (at_join : JoinsAt g r p ps j (record { core = a; world = x.state; hand = None })) where
    sync_is : at_join.sync ≡ n
    sync_is = let e : Some at_join.sync ≡ Some n = sym at_join.sync_is ∙ sync in cc

    thread_is : r.thread ≡ t
    thread_is = st.roles.thread c t r None runs_r

    abbrev th : Thread
    th = running r.tie at_join.pc at_join.regs

    abbrev th' : Thread
    th' = running r.tie (at_join.pc + 1) at_join.regs

    abbrev joined_threads : List Thread
    joined_threads = all_joined a.threads n

    -- what the step leaves
    abbrev pub left : CoreState
    left = row_goes_on (put_threads a (all_joined a.threads n)) r.thread (running r.tie at_join.pc at_join.regs) at_join.regs

    pub made_is : slot (home g r) a r.thread ≡ makes left
    made_is =
        at_join.joins (subst (λ k. all_wait a.threads k ≡ true) (sym sync_is) wait)
        ∙ ap (λ k. makes (row_goes_on (put_threads a (all_joined a.threads k)) r.thread (running r.tie at_join.pc at_join.regs) at_join.regs)) sync_is

    -- the thread itself isn't tied to the synchroniser
    own_untied : is_tied th n ≡ false
    own_untied = by (is_tied th n) refl
      where
        by : (b : Bool) → is_tied th n ≡ b → is_tied th n ≡ false
        by true e = absurd (own_tie (num_is r.tie n e))
        by false e = e

    own_joined : slice_get joined_threads r.thread ≡ Some th
    own_joined = joined_other a.threads n r.thread th at_join.here own_untied

    own_left : slice_get left.threads r.thread ≡ Some th'
    own_left = get_set_same joined_threads r.thread th th' own_joined

    -- a thread that isn't tied to it is what it was
    untied_left : (u : ℕ) → u ≢ t → ((thread : Thread) → slice_get a.threads u ≡ Some thread → is_tied thread n ≡ true → ⊥) → slice_get left.threads u ≡ slice_get a.threads u
    untied_left u ne no_tie = get_set_other joined_threads r.thread u th' (λ e. ne (e ∙ thread_is)) ∙ by (slice_get a.threads u) refl
      where
        not_tied : (thread : Thread) → slice_get a.threads u ≡ Some thread → (b : Bool) → is_tied thread n ≡ b → is_tied thread n ≡ false
        not_tied thread there true e = absurd (no_tie thread there e)
        not_tied thread there false e = e

        by : (o : Option Thread) → slice_get a.threads u ≡ o → slice_get joined_threads u ≡ slice_get a.threads u
        by None e = joined_at a.threads n u ∙ ap (option_map (λ (i : Thread). joined_by i (is_tied i n))) e ∙ sym e
        by (Some thread) e = joined_other a.threads n u thread e (not_tied thread e (is_tied thread n) refl) ∙ sym e

    -- one that is, is unused
    tied_left : (u : ℕ) (s : Runner) (other : Option Acquired) → u ≢ t → who c u ≡ used_by s other → s.tie ≡ Some n → (thread : Thread) × (slice_get left.threads u ≡ Some thread) × IsFree (Some thread) × (thread.tie ≡ None)
    tied_left u s other ne e tie =
        let run = (joined_thread u s other e tie).run in
        let there : slice_get a.threads u ≡ Some run.thread = ap (slice_get a.threads) (sym (st.roles.thread c u s other e)) ∙ run.there in (
          _,
          get_set_other joined_threads r.thread u th' (λ f. ne (f ∙ thread_is)) ∙ joined_one a.threads n u run.thread there (num_same run.thread.tie n (run.tied ∙ tie)),
          record {
            unused = refl;
            no_events = over_calm run.branch.mode run.branch.items run.thread.event_bit
                (joined_thread u s other e tie).over run.events;
            untied = refl;
          },
          refl,
        )

    -- The threads that the step changes.

    abbrev tied_role_of : Role → Bool
    tied_role_of role = roles_after.is_tied_role g who c t st.roles r runs_r p ps parents n sync role

    abbrev pub moved : ℕ → Bool
    moved u = nat_eq u t || tied_role_of (who c u)

    pub own_moved : moved t ≡ true
    own_moved = or_left (nat_eq t t) (tied_role_of (who c t)) (eq-eqb t t refl)

    not_moved : (u : ℕ) → moved u ≡ false → (u ≢ t) × (tied_role_of (who c u) ≡ false)
    not_moved u m = ((λ e. let both : true ≡ false = sym (or_left (nat_eq u t) (tied_role_of (who c u)) (eq-eqb u t e)) ∙ m in let z : ⊥ = cc in z), by (tied_role_of (who c u)) refl)
      where
        by : (b : Bool) → tied_role_of (who c u) ≡ b → tied_role_of (who c u) ≡ false
        by true e = let both : true ≡ false = sym (or_right (nat_eq u t) (tied_role_of (who c u)) e) ∙ m in absurd (let z : ⊥ = cc in z)
        by false e = e

    role_not_tied : (u : ℕ) (s : Runner) (other : Option Acquired) → tied_role_of (who c u) ≡ false → who c u ≡ used_by s other → s.tie ≡ Some n → ⊥
    role_not_tied u s other m e tie = let both : true ≡ false = sym (num_same s.tie n tie) ∙ ap tied_role_of (sym e) ∙ m in let z : ⊥ = cc in z

    same_thread : (u : ℕ) → u ≢ t → tied_role_of (who c u) ≡ false → slice_get left.threads u ≡ slice_get a.threads u
    same_thread u ne m = untied_left u ne (λ thread there tied. let k = tied_role u thread there tied in role_not_tied u k.0 k.1 m k.2 k.3)

    -- the program's step
    abbrev pub maker_branch : Branch
    maker_branch = chain.0.branch

    abbrev pub next : Branch
    next = record maker_branch { mode = runs }

    abbrev pub world : World
    world = joined g.program g.stimulus p.branch x.state maker_branch

    abbrev piece : List Action
    piece = go p.branch ∷ []

    one_acts : acts g.program g.stimulus x.state (go p.branch) ≡ Some world
    one_acts = join_acts g.program g.stimulus p.branch x.state maker_branch p.from p.count chain.0.known chain.0.mode all_ended

    all_acted : acts_all g.program g.stimulus (Some x.state) piece ≡ Some world
    all_acted = ap (λ o. acts_all g.program g.stimulus o []) one_acts

    next_there : slice_get world.branches p.branch ≡ Some next
    next_there = get_set_same x.state.branches p.branch maker_branch next chain.0.known

    other_there : (k : ℕ) → k ≢ p.branch → slice_get world.branches k ≡ slice_get x.state.branches k
    other_there k ne = get_set_other x.state.branches p.branch k next ne

    own_branches_are : (k : ℕ) → (k ≡ r.branch) ⊎ IsAmong (own_branches maker) k → IsAmong (own_branches r) k
    own_branches_are k (inl e) = inl e
    own_branches_are k (inr m) = inr (subst (λ l. IsAmong (branches_of l) k) (sym parents) m)

    pub effect : Effect g who c t r None moved a left x.state world
    effect = record {
      clock = refl;
      sizes = refl;
      threads = λ u m. let k = not_moved u m in same_thread u k.0 k.1;
      not_held = λ u s got ne. by_got u s got;
      ties = λ u k thread m there tied.
          ⊎_elim
          (λ (e : u ≡ t).
          let same : thread ≡ th' = same_Some thread th' (sym there ∙ ap (slice_get left.threads) (e ∙ sym thread_is) ∙ own_left) in
          inr (ap (λ (i : Thread). i.tie) (sym same) ∙ num_is thread.tie k tied))
          (λ (ne : u ≢ t). absurd (freed_not_tied u k thread ne m there tied))
          (cases_eq u t);
      syncs = λ k mine was. was;
      words = λ k mine. refl;
      resources = others_same _ _ _ _ refl refl refl;
      clocks = refl;
      branches = λ k b mine there. other_there k (λ e. mine (own_branches_are k (inr (inl e)))) ∙ there;
      store = λ v unchanged. refl;
    }
      where
        by_got : (u s : ℕ) → who c u ≡ got_by s → moved u ≡ false
        by_got u s got =
            let ne : u ≢ t = λ e. let both : got_by s ≡ used_by r None = sym got ∙ ap (who c) e ∙ runs_r in let z : ⊥ = cc in z in
            ap (λ b. b || tied_role_of (who c u)) (ne_eqb u t ne) ∙ ap tied_role_of got

        tied_role_then : (u : ℕ) → u ≢ t → moved u ≡ true → (s : Runner) × (other : Option Acquired) × (who c u ≡ used_by s other) × (s.tie ≡ Some n)
        tied_role_then u ne m = roles_after.tied_then g who c t st.roles r runs_r p ps parents n sync (who c u) (sym (ap (λ b. b || tied_role_of (who c u)) (ne_eqb u t ne)) ∙ m)

        freed_not_tied : (u k : ℕ) (thread : Thread) → u ≢ t → moved u ≡ true → slice_get left.threads u ≡ Some thread → is_tied thread k ≡ true → ⊥
        freed_not_tied u k thread ne m there tied =
            let s = tied_role_then u ne m in
            let l = tied_left u s.0 s.1 ne s.2 s.3 in
            let same : thread ≡ l.0 = same_Some thread l.0 (sym there ∙ l.1) in
            let clash : None ≡ Some k = sym l.3 ∙ ap (λ (i : Thread). i.tie) (sym same) ∙ num_is thread.tie k tied in
            let z : ⊥ = cc in z

    -- the threads and synchronisers are used so
    pub used' : AreUsedSo who' c left
    used' = record {
      threads = length-set joined_threads r.thread th' ∙ joined_length a.threads n ∙ used.threads;
      syncs = used.syncs;
      unused = λ u lt at. free_by u lt at (roles_after.place g who c t st.roles r runs_r p ps parents n sync c u);
      got = λ u k m q hand at its in_hand. got_by_place u k m q hand at its in_hand (roles_after.place g who c t st.roles r runs_r p ps parents n sync c u) (roles_after.place g who c t st.roles r runs_r p ps parents n sync c k);
      taken = λ m now. let k = used.taken m now in taken_by m k.0 k.1 k.2 k.3 k.4 (roles_after.place g who c t st.roles r runs_r p ps parents n sync c k.0);
      owned = λ u m q hand at its.
          let b = roles_after.before g who c t st.roles r runs_r p ps parents n sync bare own_tie c u q hand at in
          used.owned u m b.runner b.hand b.is (b.owns m its);
    }
      where
        not_tied_here : (u : ℕ) → (◌≡◌ {A = ℕ} c c → (s : Runner) × (other : Option Acquired) × (who c u ≡ used_by s other) × (s.tie ≡ Some n) → ⊥) → u ≢ t → slice_get left.threads u ≡ slice_get a.threads u
        not_tied_here u no_tie ne = untied_left u ne (λ thread there tied. no_tie refl (tied_role u thread there tied))

        free_by : (u : ℕ) → u < 8 → who' c u ≡ unused → roles_after.Place g who c t st.roles r runs_r p ps parents n sync c u → IsFree (slice_get left.threads u)
        free_by u lt at (roles_after.at_own e f now) = let both : used_by maker (giving_back n) ≡ unused = sym now ∙ at in absurd (let z : ⊥ = cc in z)
        free_by u lt at (roles_after.freed e ne now tied) = let l = tied_left u tied.0 tied.1 ne tied.2 tied.3 in subst IsFree (sym l.1) l.2
        free_by u lt at (roles_after.elsewhere same not_own no_tie) =
            subst IsFree (sym (not_tied_here u no_tie (λ e. not_own (refl, e)))) (used.unused u lt (sym same ∙ at))

        got_by_place : (u k m : ℕ) (q : Runner) (hand : Option Acquired) → who' c u ≡ got_by k → who' c k ≡ used_by q hand → sync_in hand ≡ Some m → roles_after.Place g who c t st.roles r runs_r p ps parents n sync c u → roles_after.Place g who c t st.roles r runs_r p ps parents n sync c k → IsWaitingTied m (slice_get left.threads u)
        got_by_place u k m q hand at its in_hand (roles_after.at_own e f now) other = let both : used_by maker (giving_back n) ≡ got_by k = sym now ∙ at in absurd (let z : ⊥ = cc in z)
        got_by_place u k m q hand at its in_hand (roles_after.freed e ne now tied) other = let both : unused ≡ got_by k = sym now ∙ at in absurd (let z : ⊥ = cc in z)
        got_by_place u k m q hand at its in_hand (roles_after.elsewhere same not_own no_tie) (roles_after.at_own e f now) =
            let h = st.roles.got c u t (sym same ∙ at ∙ ap got_by f) in
            let hands = same_hand h.0 r h.1 None (sym h.2 ∙ runs_r) in
            absurd (subst (λ i. IsAmong (held_in i) u) hands h.3)
        got_by_place u k m q hand at its in_hand (roles_after.elsewhere same not_own no_tie) (roles_after.freed e ne now tied) = let both : unused ≡ used_by q hand = sym now ∙ its in absurd (let z : ⊥ = cc in z)
        got_by_place u k m q hand at its in_hand (roles_after.elsewhere same not_own no_tie) (roles_after.elsewhere there away free) =
            subst (IsWaitingTied m) (sym (not_tied_here u no_tie (λ e. not_own (refl, e)))) (used.got u k m q hand (sym same ∙ at) (sym there ∙ its) in_hand)

        own_then : (m : ℕ) → Owns r None m → Owns maker (giving_back n) m
        own_then m (inl among) =
            ⊎_elim
            (λ (e : m ≡ n). inr (ap Some (sym e)))
            (λ (outer : IsAmong (syncs_of ps) m). inl outer)
            (subst (λ l. IsAmong l m) (roles_after.syncs_are g who c t st.roles r runs_r p ps parents n sync) among)
        own_then m (inr none) = let e : None ≡ Some m = none in absurd (let z : ⊥ = cc in z)

        taken_by : (m u : ℕ) (q : Runner) (hand : Option Acquired) → who c u ≡ used_by q hand → Owns q hand m → roles_after.Place g who c t st.roles r runs_r p ps parents n sync c u → (k : ℕ) × (i : Runner) × (other : Option Acquired) × (who' c k ≡ used_by i other) × Owns i other m
        taken_by m u q hand at owns (roles_after.at_own e f now) =
            let both : used_by r None ≡ used_by q hand = sym runs_r ∙ ap (who c) (sym f) ∙ at in
            let mine : Owns r None m = subst (λ i. Owns i None m) (sym (same_runner r q None hand both)) (subst (λ h. Owns q h m) (sym (same_hand r q None hand both)) owns) in
            (u, maker, giving_back n, now, own_then m mine)
        taken_by m u q hand at owns (roles_after.freed e ne now tied) =
            let both : used_by tied.0 tied.1 ≡ used_by q hand = sym tied.2 ∙ at in
            let k = bare u tied.0 tied.1 tied.2 tied.3 in
            let its : Owns tied.0 tied.1 m = subst (λ i. Owns i tied.1 m) (sym (same_runner tied.0 q tied.1 hand both)) (subst (λ h. Owns q h m) (sym (same_hand tied.0 q tied.1 hand both)) owns) in
            absurd (⊎_elim
            (λ (among : IsAmong (syncs_of tied.0.parents) m). subst (λ l. IsAmong (syncs_of l) m) k.0 among)
            (λ (s : sync_in tied.1 ≡ Some m). let none : None ≡ Some m = sym (ap sync_in k.1) ∙ s in let z : ⊥ = cc in z)
            its)
        taken_by m u q hand at owns (roles_after.elsewhere same not_own no_tie) = (u, q, hand, same ∙ at, owns)

    -- as many roots' branches go on
    same_count : (k : ℕ) → counts k next ≡ counts k maker_branch
    same_count k =
        let over : has_ended maker_branch.mode ≡ false = ap has_ended chain.0.mode in
        ap (λ b. one_where (nat_eq maker_branch.core k && (not b && is_of_root maker_branch.birth))) (sym over)

    living_still : (k : ℕ) → living_on k world.branches ≡ living_on k x.state.branches
    living_still k =
        let after = living_after k x.state.branches p.branch maker_branch next chain.0.known in
        let same = same_count k in
        omega (arith, after, same)

    -- a branch that goes on is the maker's, or was there before
    branch_cases : (k : ℕ) (b : Branch) → slice_get world.branches k ≡ Some b → ((k ≡ p.branch) × (b ≡ next)) ⊎ ((k ≢ p.branch) × (slice_get x.state.branches k ≡ Some b))
    branch_cases k b there =
        ⊎_elim
        (λ (e : k ≡ p.branch). inl (e, same_Some b next (sym there ∙ ap (slice_get world.branches) e ∙ next_there)))
        (λ (ne : k ≢ p.branch). inr (ne, sym (other_there k ne) ∙ there))
        (cases_eq k p.branch)

    placed' : (k : ℕ) (b : Branch) → slice_get world.branches k ≡ Some b → b.core < 4
    placed' k b there =
        ⊎_elim
        (λ (h : (k ≡ p.branch) × (b ≡ next)). subst (λ m. m < 4) (sym (ap (λ (i : Branch). i.core) h.1)) (st.placed p.branch maker_branch chain.0.known))
        (λ (h : (k ≢ p.branch) × (slice_get x.state.branches k ≡ Some b)). st.placed k b h.1)
        (branch_cases k b there)

    -- one for which the maker waited has ended
    kid_over : (k : ℕ) (b : Branch) → p.from ≤ k → k < p.from + p.count → slice_get x.state.branches k ≡ Some b → has_ended b.mode ≡ true
    kid_over k b le lt there =
        let at : p.from + (k - p.from) ≡ k = omega arith in
        sym (ap is_done there) ∙ ap (λ m. is_done (slice_get x.state.branches m)) (sym at) ∙ done_each x.state p.from p.count all_ended (k - p.from) (omega arith)

    no_kid : (k m : ℕ) (b : Branch) → slice_get x.state.branches k ≡ Some b → has_ended b.mode ≡ false → IsChild x.state.branches m k → m ≢ p.branch
    no_kid k m b there on child e =
        let same : child.parent ≡ maker_branch = same_Some child.parent maker_branch (sym child.is ∙ ap (slice_get x.state.branches) e ∙ chain.0.known) in
        let modes : waits child.from child.count ≡ waits p.from p.count = sym child.waiting ∙ ap (λ (i : Branch). i.mode) same ∙ chain.0.mode in
        let from_is : child.from ≡ p.from = cc in
        let count_is : child.count ≡ p.count = cc in
        let least = child.least in
        let less = child.less in
        let over = kid_over k b (omega arith) (omega arith) there in
        let clash : true ≡ false = sym over ∙ on in let z : ⊥ = cc in z

    made_still : (k : ℕ) (b : Branch) → slice_get x.state.branches k ≡ Some b → has_ended b.mode ≡ false → IsMade (length g.program.roots) world.branches k
    made_still k b there on = by (st.made k b there on)
      where
        by : IsMade (length g.program.roots) x.state.branches k → IsMade (length g.program.roots) world.branches k
        by (inl lt) = inl lt
        by (inr (m, child)) =
            inr (
              m,
              record {
                parent = child.parent;
                is = other_there m (no_kid k m b there on child) ∙ child.is;
                from = child.from;
                count = child.count;
                waiting = child.waiting;
                least = child.least;
                less = child.less;
              },
            )

    made' : (k : ℕ) (b : Branch) → slice_get world.branches k ≡ Some b → has_ended b.mode ≡ false → IsMade (length g.program.roots) world.branches k
    made' k b there on =
        ⊎_elim
        (λ (h : (k ≡ p.branch) × (b ≡ next)). subst (IsMade (length g.program.roots) world.branches) (sym h.0) (made_still p.branch maker_branch chain.0.known (ap has_ended chain.0.mode)))
        (λ (h : (k ≢ p.branch) × (slice_get x.state.branches k ≡ Some b)). made_still k b h.1 on)
        (branch_cases k b there)

    -- and a thread runs it
    run_by : (k : ℕ) (b : Branch) → slice_get x.state.branches k ≡ Some b → has_ended b.mode ≡ false → (q : IsRun who k) → roles_after.Place g who c t st.roles r runs_r p ps parents n sync q.core q.thread → IsRun who' k
    run_by k b there on q (roles_after.at_own e f now) =
        let same = same_runner r q.runner None q.hand (sym (ap (λ i. who i q.thread) e ∙ ap (who c) f ∙ runs_r) ∙ q.runs) in
        let mine : IsAmong (own_branches r) k = subst (λ (i : Runner). IsAmong (own_branches i) k) (sym same) q.branch in
        ⊎_elim
        (λ (first_one : k ≡ r.branch).
        let clash : true ≡ false = sym has_done ∙ ap (λ m. is_done (slice_get x.state.branches m)) (sym first_one) ∙ ap is_done there ∙ on in absurd (let z : ⊥ = cc in z))
        (λ (waiting : IsAmong (branches_of r.parents) k).
        record { core = q.core; thread = q.thread; runner = maker; hand = giving_back n; runs = now; branch = subst (λ l. IsAmong (branches_of l) k) parents waiting })
        mine
    run_by k b there on q (roles_after.freed e ne now tied) =
        let tied_here : who c q.thread ≡ used_by tied.0 tied.1 = ap (λ i. who i q.thread) (sym e) ∙ tied.2 in
        let same = same_runner tied.0 q.runner tied.1 q.hand (sym tied.2 ∙ q.runs) in
        let its : IsAmong (own_branches tied.0) k = subst (λ (i : Runner). IsAmong (own_branches i) k) (sym same) q.branch in
        let o = joined_thread q.thread tied.0 tied.1 tied_here tied.3 in
        absurd (⊎_elim
        (λ (at : k ≡ tied.0.branch).
        let same_branch : b ≡ o.run.branch = same_Some b o.run.branch (sym there ∙ ap (slice_get x.state.branches) at ∙ o.run.known) in
        let clash : true ≡ false = sym o.over ∙ ap (λ (i : Branch). has_ended i.mode) (sym same_branch) ∙ on in let z : ⊥ = cc in z)
        (λ (waiting : IsAmong (branches_of tied.0.parents) k). subst (λ l. IsAmong (branches_of l) k) o.no_parents waiting)
        its)
    run_by k b there on q (roles_after.elsewhere same not_own no_tie) = record { core = q.core; thread = q.thread; runner = q.runner; hand = q.hand; runs = same ∙ q.runs; branch = q.branch }

    run' : (k : ℕ) (b : Branch) → slice_get world.branches k ≡ Some b → has_ended b.mode ≡ false → IsRun who' k
    run' k b there on =
        ⊎_elim
        (λ (h : (k ≡ p.branch) × (b ≡ next)).
        subst (IsRun who') (sym h.0) (record { core = c; thread = t; runner = maker; hand = giving_back n; runs = roles_after.own_there g who c t st.roles r runs_r p ps parents n sync; branch = inl refl }))
        (λ (h : (k ≢ p.branch) × (slice_get x.state.branches k ≡ Some b)).
        let q = st.run k b h.1 on in
        run_by k b h.1 on q (roles_after.place g who c t st.roles r runs_r p ps parents n sync q.core q.thread))
        (branch_cases k b there)

    -- who has a synchroniser to give back
    one_more : GivesOneMore who who' c t x.state
    one_more = record {
      before = λ d u m q ne at. by d u m q ne at (roles_after.place g who c t st.roles r runs_r p ps parents n sync d u);
      maker = p.branch;
      branch = maker_branch;
      known = chain.0.known;
      from = p.from;
      count = p.count;
      waiting = chain.0.mode;
      several = chain.0.several n sync;
      here = λ m q at. ap (λ (i : Runner). i.branch) (sym (same_runner maker q (giving_back n) (giving_back m) (sym (roles_after.own_there g who c t st.roles r runs_r p ps parents n sync) ∙ at)));
    }
      where
        by : (d u m : ℕ) (q : Runner) → ((d ≡ c) × (u ≡ t) → ⊥) → who' d u ≡ used_by q (giving_back m) → roles_after.Place g who c t st.roles r runs_r p ps parents n sync d u → (s : Runner) × (k : ℕ) × (who d u ≡ used_by s (giving_back k)) × (s.branch ≡ q.branch)
        by d u m q ne at (roles_after.at_own e f now) = absurd (ne (e, f))
        by d u m q ne at (roles_after.freed e nt now tied) = let both : unused ≡ used_by q (giving_back m) = sym now ∙ at in absurd (let z : ⊥ = cc in z)
        by d u m q ne at (roles_after.elsewhere same not_own no_tie) = (q, m, sym same ∙ at, refl)

    reserves' : HasReserves g who' world
    reserves' = reserves_behind g who' x.state st.lawful (reserves_of_one_more g who x.state st.reserves st.lawful who' c t one_more) piece world all_acted

    ended_is : (m : Mode) → has_ended m ≡ true → m ≡ ended
    ended_is runs h = absurd (let z : ⊥ = cc in z)
    ended_is (waits from count) h = absurd (let z : ⊥ = cc in z)
    ended_is ended h = refl
    ended_is erred h = absurd (let z : ⊥ = cc in z)

    -- whose branch has ended needs nothing
    needs_nothing : (u : ℕ) (q : Runner) (hand : Option Acquired) → who c u ≡ used_by q hand → is_done (slice_get x.state.branches q.branch) ≡ true → q.footprint ≡ footprint_of []
    needs_nothing u q hand at done =
        let k = works_at moment c u q hand at in
        let over : k.branch.mode ≡ ended = ended_is k.branch.mode (sym (ap is_done k.known) ∙ done) in
        k.footprint ∙ ap footprint_of (forest.stopped q.branch k.branch k.known (inl over))

    -- a runner is there still, or needs nothing
    needs_by : (u : ℕ) (q : Runner) (hand : Option Acquired) → who c u ≡ used_by q hand → roles_after.Place g who c t st.roles r runs_r p ps parents n sync c u → (q.footprint ≡ footprint_of []) ⊎ (who' c u ≡ used_by q hand)
    needs_by u q hand at (roles_after.at_own e f now) =
        let same = same_runner r q None hand (sym runs_r ∙ ap (who c) (sym f) ∙ at) in
        inl (needs_nothing u q hand at (subst (λ (i : Runner). is_done (slice_get x.state.branches i.branch) ≡ true) same has_done))
    needs_by u q hand at (roles_after.freed e ne now tied) =
        let same = same_runner tied.0 q tied.1 hand (sym tied.2 ∙ at) in
        let o = joined_thread u tied.0 tied.1 tied.2 tied.3 in
        inl (needs_nothing u q hand at (subst (λ (i : Runner). is_done (slice_get x.state.branches i.branch) ≡ true) same (ap is_done o.run.known ∙ o.over)))
    needs_by u q hand at (roles_after.elsewhere same not_own no_tie) = inr (same ∙ at)

    needs : (u : ℕ) (q : Runner) (hand : Option Acquired) → who c u ≡ used_by q hand → (q.footprint ≡ footprint_of []) ⊎ (who' c u ≡ used_by q hand)
    needs u q hand at = needs_by u q hand at (roles_after.place g who c t st.roles r runs_r p ps parents n sync c u)

    -- what is loose was so before
    loose' : 1 ≤ threads_on g.program c → AreLoose g who' c left world
    loose' some =
        let old = st.loose c a at_c some in
        record {
          variables = λ v nobody wanted.
              let b = roles_after.before g who c t st.roles r runs_r p ps parents n sync bare own_tie c wanted.thread wanted.runner wanted.hand wanted.runs in
              let h = old.variables v
              (λ u q hand at. ⊎_elim (λ nothing. ap (λ (f : Footprint). f.changes v) nothing) (λ there. nobody u q hand there) (needs u q hand at))
              (record { thread = wanted.thread; runner = b.runner; hand = b.hand; runs = b.is; parent = wanted.parent; waits = b.parents wanted.parent wanted.waits; uses = wanted.uses }) in
              record { lengths = h.lengths; values = h.values };
          ports = λ q listed its nobody.
              let h = old.ports q listed its (λ u i hand at. ⊎_elim (λ nothing. ap (λ (f : Footprint). f.ports q) nothing) (λ there. nobody u i hand there) (needs u i hand at)) in
              record { port = h.port; there = h.there; declared = h.declared };
        }

    -- The maker finds all as the program has it.

    core_is : r.core ≡ c
    core_is = st.roles.core c t r None runs_r

    some_threads : 1 ≤ threads_on g.program c
    some_threads = let inside = st.roles.inside c t (λ e. let both : used_by r None ≡ unused = sym runs_r ∙ e in let z : ⊥ = cc in z) in omega (arith, inside)

    have_ended : HaveEnded x.state p.from p.count
    have_ended = λ k b le lt there. ended_is b.mode (kid_over k b le lt there)

    room : maker.stack + temporary ≤ length a.words
    room = let k = room_of_role g first who is st.roles c t r None runs_r in let size = ap (λ (s : Sizes). s.words) (st.sizes c a at_c) in
        omega (arith, k, size)

    has' : Has g maker p.items (record { core = left; world = world; hand = giving_back n })
    has' =
        let works = works_at moment in
        let h = holds_behind g who x.state st.lawful works c t r None p ps runs_r parents have_ended maker a
        (st.loose c a at_c some_threads) core_is refl room None in
        let ports = ports_behind g who x.state st.lawful works c t r None p ps runs_r parents have_ended maker a
        (st.loose c a at_c some_threads) core_is refl room None in
        record {
          branch = next;
          runs = record { known = next_there; running = refl; items_are = chain.0.items };
          core = chain.0.on_core;
          holds = record { holds = record { lengths = h.holds.lengths; values = h.holds.values }; room = h.room };
          ports = λ q listed its. let k = ports q listed its in record { port = k.port; there = k.there; declared = k.declared };
        }

    gives' : GivesBack g maker p.items j (record { core = left; world = world; hand = giving_back n })
    gives' =
        let behind : at_join.pc + 2 ≡ at_join.pc + 1 + 1 = omega arith in
        record {
          sync = n;
          in_hand = refl;
          pc = at_join.pc + 1;
          regs = at_join.regs;
          exits = at_join.exits;
          here = own_left;
          bases = record { base = at_join.bases.base; stack = at_join.bases.stack; names = at_join.bases.names };
          at_code = subst (λ q. ItemsAt (plan g r) (code g r) p.sides (EndAt (plan g r) (code g r) r.tie ps) p.items at_join.exits q j) behind at_join.at_code;
          fits = fits_here g maker p.items (st.roles.block c t r None runs_r) chain.0.fits refl;
          has = has';
          frees = λ d there taken untied.
              let e = sync_is in
              at_join.frees d there (subst (λ k. slice_get d.syncs k ≡ Some true) (sym e) taken) (subst (λ k. some_tied d.threads k ≡ false) (sym e) untied)
              ∙ ap (λ k. makes (row_goes_on (put_syncs d (slice_set d.syncs k false)) r.thread (running r.tie (at_join.pc + 1) at_join.regs) at_join.regs)) e;
        }

    abbrev watched' : Watched
    watched' = watched thread_at moved own_moved left world effect None

    -- the step counts for the family
    counts_one : 1 ≤ steps_of g.program g.stimulus r.family (Some x.state) piece
    counts_one =
        let one : counted_for maker_branch.family (option_map family_of_branch (slice_get x.state.branches p.branch)) ≡ 1 =
        ap (λ o. counted_for maker_branch.family (option_map family_of_branch o)) chain.0.known ∙ ap one_if (eq-eqb maker_branch.family maker_branch.family refl) in
        let its : 1 ≤ steps_of g.program g.stimulus maker_branch.family (Some x.state) piece = omega (arith, one) in
        subst (λ f. 1 ≤ steps_of g.program g.stimulus f (Some x.state) piece) chain.0.of_family its

    stand' : RunsBranch g maker true (giving_back n) left world (watched'.lives c t) (told_by g.program g.stimulus x piece world).actions next
    stand' = record {
      core = chain.0.on_core;
      family = chain.0.of_family;
      footprint = ap footprint_of (sym chain.0.items);
      parents = parents_still g maker x.state world r.core r.family ps p.branch
          (λ b m. other_there b (λ e. let lt = parents_below g x.state (length g.program.roots) r.core r.family forest ps p.branch chain.1 b m in let z : ⊥ = omega (arith, lt, e) in z)) chain.1;
      thread = record {
        thread = th';
        there = own_left;
        tied = refl;
        events = sym
            (ap is_watching chain.0.items ∙ items_unwatched g maker p.items gives'.exits (gives'.pc + 1) j gives'.at_code);
        is = refl;
      };
      in_hand = gives_back n refl;
      sides = chain.0.sides;
      inside = chain.0.inside;
      done = λ over. refl;
      stops = λ over. tt;
      ends_tied = λ over. let both : runs ≡ ended = over in absurd (let z : ⊥ = cc in z);
      left = 1 + j + cost g maker;
      bound =
          let life : (watched'.lives c t).steps ≡ (w.lives c t).steps + 1 = ap (λ (l : Life). l.steps) (own_life w watched'.machine c t) in
          subst (λ s. s + (1 + j + cost g maker + 3) ≤ kernel_bound g.program * ((told_by g.program g.stimulus x piece world).actions r.family + 1)) (sym life)
          (bound_grows (kernel_bound g.program) (greatest_count g.program) (w.lives c t).steps stand.left j (1 + j + cost g maker) (x.actions r.family) (steps_of g.program g.stimulus r.family (Some x.state) piece) refl (let old = stand.bound in omega (arith, old)) few (omega arith) counts_one);
      by = inr (inl (j, omega arith, subst (λ items. GivesBack g maker items j (record { core = left; world = world; hand = giving_back n })) (sym chain.0.items) gives'));
    }

    stand_by : (u : ℕ) → moved u ≡ true → roles_after.Place g who c t st.roles r runs_r p ps parents n sync c u → ThreadRel g (rests_alone c t c u) left world (watched'.lives c u) (told_by g.program g.stimulus x piece world).actions (who' c u)
    stand_by u m (roles_after.at_own e f now) =
        let more = (told_by g.program g.stimulus x piece world).actions in
        subst (λ k. ThreadRel g (rests_alone c t c k) left world (watched'.lives c k) more (who' c k)) (sym f)
        (subst (λ b. ThreadRel g b left world (watched'.lives c t) more (who' c t)) (sym (rests_there c t))
        (subst (ThreadRel g true left world (watched'.lives c t) more) (sym (roles_after.own_there g who c t st.roles r runs_r p ps parents n sync))
        (subst (λ o. SomeIs o (RunsBranch g maker true (giving_back n) left world (watched'.lives c t) more)) (sym next_there) stand')))
    stand_by u m (roles_after.freed e ne now tied) = subst (ThreadRel g (rests_alone c t c u) left world (watched'.lives c u) (told_by g.program g.stimulus x piece world).actions) (sym now) tt
    stand_by u m (roles_after.elsewhere same not_own no_tie) =
        absurd (no_tie refl (roles_after.tied_then g who c t st.roles r runs_r p ps parents n sync (who c u)
        (sym (ap (λ b. b || tied_role_of (who c u)) (ne_eqb u t (λ e. not_own (refl, e)))) ∙ m)))

    role_still : (u : ℕ) → moved u ≡ false → roles_after.Place g who c t st.roles r runs_r p ps parents n sync c u → who' c u ≡ who c u
    role_still u m (roles_after.at_own e f now) = absurd ((not_moved u m).0 f)
    role_still u m (roles_after.freed e ne now tied) = absurd (role_not_tied u tied.0 tied.1 (not_moved u m).1 tied.2 tied.3)
    role_still u m (roles_after.elsewhere same not_own no_tie) = same

    far_by : (d u : ℕ) → d ≢ c → roles_after.Place g who c t st.roles r runs_r p ps parents n sync d u → who' d u ≡ who d u
    far_by d u ne (roles_after.at_own e f now) = absurd (ne e)
    far_by d u ne (roles_after.freed e nt now tied) = absurd (ne e)
    far_by d u ne (roles_after.elsewhere same not_own no_tie) = same

    -- whose branch has ended is in no transfer
    in_none : (u : ℕ) (q : Runner) (hand : Option Acquired) → who c u ≡ used_by q hand → is_done (slice_get x.state.branches q.branch) ≡ true → q.transfer ≡ None
    in_none u q hand at done =
        let k = works_at moment c u q hand at in
        k.done (ended_is k.branch.mode (sym (ap is_done k.known) ∙ done))

    -- each thread is in the transfer in which it was
    transfers_still : TransfersAsBefore who who'
    transfers_still =
        roles_after.joins_transfers g who c t st.roles r runs_r p ps parents n sync (in_none t r None runs_r has_done)
        (λ u s other at tie. let o = joined_thread u s other at tie in in_none u s other at (ap is_done o.run.known ∙ o.over))

    -- the maker is in none
    none_inside : (u : ℕ) (q : Runner) (hand : Option Acquired) (transfer : Transfer) → moved u ≡ true → who' c u ≡ used_by q hand → q.transfer ≡ Some transfer → roles_after.Place g who c t st.roles r runs_r p ps parents n sync c u → ⊥
    none_inside u q hand transfer m at its (roles_after.at_own e f now) =
        let not_one : None ≡ Some transfer = ap (λ (i : Runner). i.transfer) (same_runner maker q (giving_back n) hand (sym now ∙ at)) ∙ its in let z : ⊥ = cc in z
    none_inside u q hand transfer m at its (roles_after.freed e ne now tied) = let both : unused ≡ used_by q hand = sym now ∙ at in let z : ⊥ = cc in z
    none_inside u q hand transfer m at its (roles_after.elsewhere same not_own no_tie) =
        no_tie refl (roles_after.tied_then g who c t st.roles r runs_r p ps parents n sync (who c u)
        (sym (ap (λ b. b || tied_role_of (who c u)) (ne_eqb u t (λ e. not_own (refl, e)))) ∙ m))

    -- the maker goes on in the program, too, and all stand so again
    pub joins_followed : Follows g (rests_alone c t) who w x watched'
    joins_followed = record {
      who = who';
      piece = piece;
      world = world;
      acted = all_acted;
      standing = answered thread_at moved own_moved left world effect (rests_alone c t) who' watched' piece
          (has_stepped thread_at moved own_moved left world effect None refl)
          (record {
            acted = all_acted;
            clocks = clocks_still thread_at moved own_moved left world effect None;
            trace = st.trace;
            roles = roles';
            reserves = reserves';
            used = used';
            same_role = λ u m. role_still u m (roles_after.place g who c t st.roles r runs_r p ps parents n sync c u);
            far_role = λ d u ne. far_by d u ne (roles_after.place g who c t st.roles r runs_r p ps parents n sync d u);
            rests = λ u m none. let both : false ≡ true = none in absurd (let z : ⊥ = cc in z);
            far_rests = λ d u ne none. let both : false ≡ true = none in absurd (let z : ⊥ = cc in z);
            steps = λ u m. steps_still thread_at moved own_moved left world effect None u m;
            far_steps = λ d u ne. far_steps_still thread_at moved own_moved left world effect None d u ne;
            stand = λ u m. stand_by u m (roles_after.place g who c t st.roles r runs_r p ps parents n sync c u);
            wired = wired_still g who who' w.machine watched'.machine c a left x.state world transfers_still at_c refl refl refl refl st.wired;
            alone = λ u q hand transfer m at its. absurd (none_inside u q hand transfer m at its (roles_after.place g who c t st.roles r runs_r p ps parents n sync c u));
            loose = loose';
            roots = st.roots c a at_c ∙ sym (living_still c);
            far_roots = λ d ne. living_still d;
            placed = placed';
            run = run';
            made = made';
          });
      named = λ names.
          joins_linked g none_rests who w x st names watched'.machine c t a left at_c (get_set_same w.machine.cores c a left at_c) r runs_r p ps parents n sync th' (told_by g.program g.stimulus x piece world)
          (told_one g x piece world p.branch maker_branch next chain.0.known refl refl) refl (ap (λ k. slice_set joined_threads k th') thread_is);
    }
