-- A thread's turn is answered: behind it the thread stands so again.
use Rattle.std.proofs.Common.{◌≡◌, ℕ, ◌+◌, ◌-◌, ◌*◌, ◌<◌, ◌≤◌, inl, inr, [], ◌∷◌, List, Option, Some, None, refl, sym, ap, ◌∙◌, subst, arith}
use Rattle.std.specs.Prelude.{true, false, slice_get}
use Rattle.std.proofs.lemmas.Option.{same_Some}
use Rattle.xs_instr.specs.declared.state.Mode.TheVariants.{Trapped}
use Rattle.xs_instr.specs.declared.state.Thread.{Thread}
use Rattle.xs_instr.specs.Slot.{trapped}
use Rattle.xc_invariants.specs.Tree.{IsWaiting}
use Rattle.xc_meaning.specs.Counts.Families.{steps_of}
use Rattle.xc_meaning.specs.Counts.KernelCounts.{greatest_count, kernel_bound}
use Rattle.xc_meaning.specs.States.Branches.{Branch, runs, ended, erred, has_ended}
use Rattle.xc_meaning.specs.States.Worlds.{World}
use Rattle.xl_par.specs.Acquired.{IsAmong}
use Rattle.xr_match.specs.Lives.{Life, Watched}
use Rattle.xr_simulation.specs.Parents.{Parent, branches_of}
use Rattle.xr_simulation.specs.Roles.{IsParent, ParentWaits, ParentsWait, empty, outermost}
use Rattle.xr_simulation.specs.Runners.{Setting, footprint_of, shrunk}
use Rattle.xr_simulation.specs.ThreadViews.{ThreadView, running, running_so}
use Rattle.xr_simulation.specs.MatchStates.{HasEnded, RunsBranch, ProgressBy, ProgressWith, ThreadIs, counts, none_rests}
use Rattle.xr_simulation.specs.Transfers.{StopsIn, Transfer, spared}
use Rattle.xr_simulation.specs.NextStep.{Errs, Frees, Goes, IsTiedThread, IsWaitingTied, Waits, cost, failed, finished, is_watching}
use Rattle.xr_simulation.proofs.OwnSteps.Answers.{errs_step, frees_step, goes_step, trap_leaves, waits_step}
use Rattle.xr_simulation.proofs.Relation.Counts.{made_counts, root_counts}
use Rattle.xr_simulation.proofs.RelyGuarantee.Less.{uses_less}
use Rattle.xr_simulation.proofs.Lives.OwnLife.{own_life}
use Rattle.xr_simulation.proofs.Relation.Moments.{BranchAt, Moment, ThreadAt}
use Rattle.xr_simulation.proofs.Relation.CoreSteps.{works_at}
use Rattle.xr_simulation.proofs.OwnSteps.Events.{OwnStep, alone_on, bound_grows, goes_on_answered, other_branch, parent_waits, rests_alone, rests_there, spared_few, watched_on, wired_on}
use Rattle.xr_simulation.proofs.OwnSteps.Leaves.{leaves_answered, watched_off}
use Rattle.xr_simulation.proofs.RelyGuarantee.Footprints.{IsWithin, rest_shrinks, within_of_uses}
use Rattle.xr_simulation.proofs.Relation.Lasting.{Follows, parents_still, rests_more, told_by}
use Rattle.xr_simulation.proofs.RelyGuarantee.Events.{events_on}

-- the one among them that waits
pub parent_of : (g : Setting) (x : World) (core family first : ℕ) (ps : List Parent) (p : Parent) → ParentsWait g x core family ps first → IsParent ps p → (k : ℕ) × ParentWaits g x core family p k
parent_of g x core family first [] p h m = absurd m
parent_of g x core family first (q ∷ qs) p h (inl e) = (first, subst (λ k. ParentWaits g x core family k first) (sym e) h.0)
parent_of g x core family first (q ∷ qs) p h (inr m) = parent_of g x core family q.branch qs p h.1 m

-- a thread that is in no transfer may stop
pub stops_outside : (o : Option Transfer) → o ≡ None → StopsIn o
stops_outside None e = tt
stops_outside (Some transfer) e = let both : ◌≡◌ {A = Option Transfer} (Some transfer) None = e in cc

module _ {moment : Moment none_rests} {thread_at : ThreadAt moment None} (branch_at : BranchAt thread_at) where
  open moment use {setting as g, image as is, roles as who, watched as w, told as x, standing as st}
  open thread_at use {core as c, thread as t, state as a, at_core as at_c, runner as r, runs as runs_r}
  open branch_at use {branch, known, stand}

  abbrev now : ThreadView
  now = record { core = a; world = x.state; hand = None }

  -- where the thread is, for the machine
  core_is : r.core ≡ c
  core_is = st.roles.core c t r None runs_r

  -- what is behind a step of the branch's own
  module _ (e : OwnStep g r c a x.state) where
    abbrev e_watched : Watched
    e_watched = watched_on thread_at e none_rests

    same_branch : e.branch ≡ branch
    same_branch = same_Some e.branch branch (sym e.known ∙ known)

    -- its life is one step longer
    bound_behind : (j further : ℕ) → j ≤ stand.left → further ≤ j + 1 + cost g r →
        (e_watched.lives c t).steps + (further + spared r.transfer) ≤ kernel_bound g.program *
        ((told_by g.program g.stimulus x e.piece e.world).actions r.family + 1)
    bound_behind j further few enough =
        let one : 1 ≤ steps_of g.program g.stimulus branch.family (Some x.state) e.piece = subst
        (λ (b : Branch). 1 ≤ steps_of g.program g.stimulus b.family (Some x.state) e.piece) same_branch e.paid in
        let one' : 1 ≤ steps_of g.program g.stimulus r.family (Some x.state) e.piece = subst
        (λ f. 1 ≤ steps_of g.program g.stimulus f (Some x.state) e.piece) stand.family one in
        let life : (e_watched.lives c t).steps ≡ (w.lives c t).steps + 1 = ap (λ (l : Life). l.steps) (own_life w e_watched.machine c t) in
        let all = bound_grows (kernel_bound g.program) (greatest_count g.program) (w.lives c t).steps stand.left j further
        (x.actions r.family) (steps_of g.program g.stimulus r.family (Some x.state) e.piece) refl (let old = stand.bound in omega (arith, old)) few enough one' in
        let three = spared_few r.transfer in
        subst (λ k. k + (further + spared r.transfer) ≤ kernel_bound g.program * ((told_by g.program g.stimulus x e.piece e.world).actions r.family + 1))
        (sym life) (omega (arith, all, three))

    -- those that wait for the branch do so still
    pub parents_behind : ParentsWait g e.world r.core r.family r.parents r.branch
    parents_behind =
        parents_still g r x.state e.world r.core r.family r.parents r.branch
        (λ n m. other_branch thread_at e n (λ same. not_own n m same)) stand.parents
      where
        not_own : (n : ℕ) → IsAmong (branches_of r.parents) n → n ≡ r.branch → ⊥
        not_own n m same =
            let p = parent_waits g x.state r.core r.family r.branch r.parents n stand.parents m in
            let both : p.0 ≡ e.branch = same_Some p.0 e.branch (sym p.1 ∙ ap (slice_get x.state.branches) same ∙ e.known) in
            runs_waits (subst (λ (b : Branch). IsWaiting b.mode) both p.2)
          where
            runs_waits : IsWaiting e.branch.mode → ⊥
            runs_waits h = subst IsWaiting e.running h

  -- the thread, which is in no transfer, does an item, and the branch goes on
  module _ (none : r.transfer ≡ None) (j : ℕ) (few : j ≤ stand.left) (h : Goes g r j now) where
    abbrev pub went : OwnStep g r c a x.state
    went = goes_step g r c a x.state j h

    -- what is left uses no more
    less : IsWithin (footprint_of h.items) r.footprint
    less = subst (IsWithin (footprint_of h.items)) (sym (stand.footprint ∙ ap (λ (b : Branch). footprint_of b.items) (sym (same_branch went))))
        (within_of_uses h.items h.acts.branch.items
        (uses_less g.program g.stimulus x.state h.acts.world h.acts.action st.lawful h.acts.acted r.branch h.acts.branch
        (record h.acts.branch { items = h.items }) h.acts.known
        (ap (λ l. slice_get l r.branch) h.acts.is_next.branches ∙ Rattle.xl_expr.proofs.Lists.get_set_same x.state.branches r.branch h.acts.branch (record h.acts.branch { items = h.items }) h.acts.known)))

    abbrev pub went_watched : Watched
    went_watched = watched_on thread_at went (rests_alone c t)

    went_stand : RunsBranch g (shrunk r h.items) (rests_alone c t c t) None h.left h.acts.world (went_watched.lives c t)
        (told_by g.program g.stimulus x (h.acts.action ∷ []) h.acts.world).actions (record h.acts.branch { items = h.items })
    went_stand =
        let further = h.jumps + cost g r in
        let z : ThreadView = record { core = h.left; world = h.acts.world; hand = None } in
        let rest = rest_shrinks g r h.items less h.jumps z h.rest in
        let enough = h.fewer in
        record {
          core = h.acts.core;
          family = ap (λ (b : Branch). b.family) (same_branch went) ∙ stand.family;
          footprint = refl;
          parents = parents_behind went;
          thread = record {
            thread = running_so (is_watching h.items) r.tie h.rest.pc h.rest.regs;
            there = h.rest.here;
            tied = refl;
            events = events_on h.acts.branch.mode h.items (is_watching h.items) h.acts.mode refl;
            is = subst
                (λ m. ThreadIs r.parents m Rattle.xs_instr.specs.declared.state.Mode.TheVariants.Running) (sym h.acts.mode) refl;
          };
          in_hand = empty refl;
          sides = ap (λ (b : Branch). b.sides) (same_branch went) ∙ stand.sides;
          inside = ap (λ (b : Branch). b.inside) (same_branch went) ∙ stand.inside;
          done = λ f. none;
          stops = λ f. stops_outside r.transfer none;
          ends_tied = λ f. absurd (runs_ended (sym h.acts.mode ∙ f));
          left = further;
          bound = bound_behind went j further few (omega arith);
          by = subst (λ m. ProgressBy g (shrunk r h.items) (rests_alone c t c t) h.items m further z) (sym h.acts.mode)
              (rests_more g (shrunk r h.items) true (rests_alone c t c t) h.items runs further z (λ f. rests_there c t)
              (subst (λ o. ProgressWith g (shrunk r h.items) true o h.items further z) (sym none) (inr (inr (h.jumps, omega arith, refl, rest)))));
        }
      where
        runs_ended : runs ≡ ended → ⊥
        runs_ended f = cc

    pub goes_answered : Follows g (rests_alone c t) who w x went_watched
    goes_answered =
        goes_on_answered thread_at went (rests_alone c t)
        (wired_on thread_at went (rests_alone c t) refl h.channel_ends h.acts.inboxes)
        (alone_on thread_at went (rests_alone c t) refl (λ f. runs_ended (sym h.acts.mode ∙ f)))
        went_stand
      where
        runs_ended : runs ≡ ended → ⊥
        runs_ended f = cc

  -- The thread traps, and the branch errs. Inside a transfer the thread was waiting for an answer.
  module _ (stops : StopsIn r.transfer) (h : Errs g r now) where
    abbrev pub erring : OwnStep g r c a x.state
    erring = errs_step g r c a x.state stand.thread.thread stand.thread.there stand.thread.tied h

    abbrev pub erring_watched : Watched
    erring_watched = watched_on thread_at erring none_rests

    erring_stand : RunsBranch g (shrunk r []) false None (trapped a r.thread) h.acts.world (erring_watched.lives c t)
        (told_by g.program g.stimulus x (h.acts.action ∷ []) h.acts.world).actions (failed h.acts.branch)
    erring_stand =
        let t' = trap_leaves g r c a x.state stand.thread.thread stand.thread.there in
        record {
          core = h.acts.core;
          family = ap (λ (b : Branch). b.family) (same_branch erring) ∙ stand.family;
          footprint = refl;
          parents = parents_behind erring;
          thread = record {
            thread = record stand.thread.thread { mode = Trapped };
            there = t'.there;
            tied = stand.thread.tied;
            events = tt;
            is = trapped_is r.parents;
          };
          in_hand = empty refl;
          sides = ap (λ (b : Branch). b.sides) (same_branch erring) ∙ stand.sides;
          inside = ap (λ (b : Branch). b.inside) (same_branch erring) ∙ stand.inside;
          done = λ f. absurd (erred_ended f);
          stops = λ f. stops;
          ends_tied = λ f. absurd (erred_ended f);
          left = 0;
          bound = bound_behind erring 0 0 (omega arith) (omega arith);
          by = refl;
        }
      where
        erred_ended : erred ≡ ended → ⊥
        erred_ended f = cc

        trapped_is : (ps : List Parent) → ThreadIs ps erred Trapped
        trapped_is [] = refl
        trapped_is (p ∷ ps) = refl

    pub errs_answered : Follows g none_rests who w x erring_watched
    errs_answered =
        let t' = trap_leaves g r c a x.state stand.thread.thread stand.thread.there in
        goes_on_answered thread_at erring none_rests
        (wired_on thread_at erring none_rests refl t'.channel_ends h.acts.inboxes)
        (alone_on thread_at erring none_rests refl (λ f. erred_ended f))
        erring_stand
      where
        erred_ended : erred ≡ ended → ⊥
        erred_ended f = cc

  -- a root's thread, which is in no transfer, is freed
  module _ (none : r.transfer ≡ None) (h : Frees g r now) where
    -- its branch is the root's
    pub is_root : (b : Branch) → slice_get x.state.branches r.branch ≡ Some b → b.mode ≡ runs → counts c b ≡ 1
    is_root b at running =
        let started = st.roles.started c t r None runs_r in
        let own : r.branch ≡ r.family = subst (λ ps. outermost r.branch ps ≡ r.family) h.outermost started in
        let lt = st.roles.untied c t r None runs_r h.root in
        let birth = st.lawful.forest.born r.branch b at (omega arith) in
        let on : b.core ≡ c = ap (λ (k : Branch). k.core) (same_Some b branch (sym at ∙ known)) ∙ stand.core ∙ core_is in
        ap (λ k. counts k b) (sym on) ∙ root_counts b (ap has_ended running) birth

    pub some_roots : 1 ≤ a.roots
    some_roots =
        let one = is_root h.acts.branch h.acts.known h.acts.mode in
        let living = Rattle.xr_simulation.proofs.Relation.Counts.living_some c x.state.branches r.branch h.acts.branch h.acts.known in
        let all = st.roots c a at_c in
        omega arith

    abbrev pub freeing : OwnStep g r c a x.state
    freeing = frees_step g r c a x.state some_roots is_root h

    pub frees_answered : Follows g none_rests who w x (watched_off thread_at freeing h.root h.outermost refl h.unused)
    frees_answered = leaves_answered thread_at freeing h.root h.outermost refl h.unused none h.channel_ends h.acts.inboxes

  -- a tied thread, which is in no transfer, waits
  module _ (none : r.transfer ≡ None) (h : Waits g r now) where
    -- its branch is one that a `par` made
    pub is_made : (b : Branch) → slice_get x.state.branches r.branch ≡ Some b → counts c b ≡ 0
    is_made b at =
        let k = st.roles.tied c t h.sync r None runs_r h.tied in
        let owner = works_at moment c k.0 k.2 k.3 k.5 in
        let q = parent_of g x.state k.2.core k.2.family k.2.branch k.2.parents k.4 owner.parents k.6 in
        let started = st.roles.started c t r None runs_r in
        let own : r.branch ≡ r.family = subst (λ ps. outermost r.branch ps ≡ r.family) h.outermost started in
        let family : r.family ≡ k.4.from + k.1 = k.10 in
        let less : k.1 < k.4.count = k.9 in
        let birth = (st.lawful.forest.own k.4.branch r.branch q.1.branch b k.4.from k.4.count q.1.known q.1.mode (omega arith) (omega arith) at).birth in
        made_counts c b (record { family = q.1.branch.family; index = r.branch - k.4.from; among = k.4.count }) birth

    abbrev pub waiting : OwnStep g r c a x.state
    waiting = waits_step g r c a x.state is_made h

    abbrev pub waiting_watched : Watched
    waiting_watched = watched_on thread_at waiting none_rests

    waiting_stand : RunsBranch g (shrunk r []) false None h.left h.acts.world (waiting_watched.lives c t)
        (told_by g.program g.stimulus x (h.acts.action ∷ []) h.acts.world).actions (finished h.acts.branch)
    waiting_stand =
        let th = waits_thread (slice_get h.left.threads r.thread) refl h.waits in
        record {
          core = h.acts.core;
          family = ap (λ (b : Branch). b.family) (same_branch waiting) ∙ stand.family;
          footprint = refl;
          parents = parents_behind waiting;
          thread = record {
            thread = th.0;
            there = th.1;
            tied = th.2.tied ∙ sym h.tied;
            events = th.2.no_events;
            is = subst
                (λ ps. ThreadIs ps ended th.0.mode) (sym h.outermost) th.2.waits;
          };
          in_hand = empty refl;
          sides = ap (λ (b : Branch). b.sides) (same_branch waiting) ∙ stand.sides;
          inside = ap (λ (b : Branch). b.inside) (same_branch waiting) ∙ stand.inside;
          done = λ f. none;
          stops = λ f. stops_outside r.transfer none;
          ends_tied = λ f bare. (h.sync, h.tied);
          left = 0;
          bound = bound_behind waiting 0 0 (omega arith) (omega arith);
          by = subst (λ ps. HasEnded g (shrunk r []) ps 0 (record { core = h.left; world = h.acts.world; hand = None })) (sym h.outermost) refl;
        }
      where
        waits_thread : (o : Option Thread) → slice_get h.left.threads r.thread ≡ o → IsWaitingTied h.sync o → (th : Thread) × (slice_get h.left.threads r.thread ≡ Some th) × IsTiedThread h.sync th
        waits_thread None f k = absurd k
        waits_thread (Some th) f k = (th, f, k)

    pub waits_answered : Follows g none_rests who w x waiting_watched
    waits_answered =
        goes_on_answered thread_at waiting none_rests
        (wired_on thread_at waiting none_rests refl h.channel_ends h.acts.inboxes)
        (λ transfer f. absurd (none_some transfer (sym none ∙ f)))
        waiting_stand
      where
        none_some : (transfer : Transfer) → ◌≡◌ {A = Option Transfer} None (Some transfer) → ⊥
        none_some transfer f = cc
