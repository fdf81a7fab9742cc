-- Each step of a thread is followed by a piece of the program's run, and the two stand as before; some threads may be at rest.
use Rattle.std.proofs.Common.{◌≡◌, ℕ, zero, suc, ◌+◌, ◌<◌, ◌≤◌, ◌≢◌, ◌⊎◌, inl, inr, [], ◌∷◌, List, Option, Some, None, refl, sym, ap, ◌∙◌, subst, ⊎_elim, arith}
use Rattle.std.specs.Prelude.{Bool, true, false, nat_eq, slice_get}
use Rattle.std.proofs.lemmas.Option.{same_Some, slice_get_within}
use Rattle.xs_instr.specs.declared.image.Home.{Home}
use Rattle.xs_instr.specs.declared.state.CoreState.{CoreState}
use Rattle.xs_instr.specs.declared.state.Mode.{Mode as ThreadMode}
use Rattle.xs_instr.specs.declared.state.Mode.TheVariants.{Running, Trapped, Unused, Waiting}
use Rattle.xs_instr.specs.declared.state.Item.{Item}
use Rattle.xs_instr.specs.declared.state.Sent.{Sent}
use Rattle.xs_instr.specs.declared.state.Thread.{Thread}
use Rattle.xs_instr.specs.declared.trace.Record.{Record}
use Rattle.xs_instr.specs.Did.{Did, Idle, Paused}
use Rattle.xs_instr.specs.Machine.{Event, Machine, Move, Step, Tick, does, home_of, link_of, move_at, move_to, step_at, stepped, tick_at}
use Rattle.xs_instr.specs.Pool.{all_wait}
use Rattle.xs_instr.specs.Slot.{slot, turn_at, turn_of}
use Rattle.xc_meaning.specs.States.Branches.{Branch, Mode, runs, waits, ended, erred}
use Rattle.xc_meaning.specs.States.Channels.{Parcel, Side}
use Rattle.xc_meaning.specs.States.Worlds.{World}
use Rattle.xl_par.specs.Acquired.{Acquired}
use Rattle.xr_match.specs.Lives.{Life, Watched, watched_after}
use Rattle.xr_match.specs.Meanings.{of_kernel}
use Rattle.xr_match.specs.Sources.{Counted}
use Rattle.xr_match.specs.Systems.{SomeIs}
use Rattle.xr_simulation.specs.Parents.{Parent}
use Rattle.xr_simulation.specs.Roles.{AcquiredFits, Role, Roles, got_by, unused, used_by}
use Rattle.xr_simulation.specs.Runners.{Setting, Runner, footprint_of, home}
use Rattle.xr_simulation.specs.ThreadViews.{IsSilentStep, LeadsIn, Rely, ThreadView, giving_back}
use Rattle.xr_simulation.specs.MatchStates.{EventsAre, HasEnded, HasThread, RunsBranch, ThreadRel, ProgressBy, ProgressWith, ThreadIs, cost_behind, none_rests}
use Rattle.xr_simulation.specs.Transfers.{GoesWith, StopsIn, Transfer, in_phase, owing, steps_left}
use Rattle.xr_simulation.specs.NextStep.{Communicates, Errs, Frees, GivesBack, Goes, InTransfer, IsUnput, LeftTo, on_time, unput, IsFree, IsWaitingTied, Joins, JoinsAt, Piece, NextStep, StableNextStep, Waits, begins, communicates, cost, errs, frees, goes_on, pauses, puts_out, at_select, takes_in, waits_tied}
use Rattle.xr_simulation.proofs.Channels.AnswerRows.{answer_followed}
use Rattle.xr_simulation.proofs.Par.Opens as begun
use Rattle.xr_simulation.proofs.Par.Opens.{begins_followed}
use Rattle.xr_simulation.proofs.Par.Acquisitions.{hand_sync, silent_followed}
use Rattle.xr_simulation.proofs.Channels.InTransfers as rows
use Rattle.xr_simulation.proofs.Channels.InTransfers.{IsFollowed, behind_step, followed}
use Rattle.xr_simulation.proofs.Channels.Deliveries.{move_followed}
use Rattle.xr_simulation.proofs.Channels.InputRows.{input_followed}
use Rattle.xr_simulation.proofs.Channels.LateAnswers.{late_answer_followed}
use Rattle.xr_simulation.proofs.Par.Joins as joined
use Rattle.xr_simulation.proofs.Par.Joins.{joins_followed}
use Rattle.xr_simulation.proofs.Relation.Moments.{BranchAt, Moment, ThreadAt, branch_of, thread_of}
use Rattle.xr_simulation.proofs.Relation.CoreSteps.{kept_now, works_at}
use Rattle.xr_simulation.proofs.Channels.OfferRows.{offer_followed}
use Rattle.xr_simulation.proofs.Channels.SelectEnds.{selects_alike}
use Rattle.xr_simulation.proofs.ItemCode.SelectTurns.{SelectGoes}
use Rattle.xr_simulation.proofs.OwnSteps.Events.{rests_alone}
use Rattle.xr_simulation.proofs.Par.Resumes as resumes
use Rattle.xr_simulation.proofs.Par.Resumes.{resumes_followed}
use Rattle.xr_simulation.proofs.Relation.Lasting.{Follows, stand_as}
use Rattle.xr_simulation.proofs.Relation.Ticks.{no_machine, tick_followed}
use Rattle.xr_simulation.proofs.Channels.TransferErrs.{errs_followed}
use Rattle.xr_simulation.proofs.Channels.TransferRows.{alone_elsewhere, checks_end_followed, sends_ack_followed, sends_end_followed}
use Rattle.xr_simulation.proofs.OwnSteps.AnsweredTurns.{frees_answered, goes_answered, waits_answered}
use Rattle.xr_simulation.proofs.RelyGuarantee.Events.{events_on}
use Rattle.xr_channels.specs.Phases.{Phase, awaits_ack, between, checks_end, closes, opens, sends_ack, sends_end, streams, was_closed}
use Rattle.xr_channels.specs.Phases as wires

-- an offer isn't late in any other phase
no_phase : (phase : Phase) (v : ℕ) → (phase ≡ sends_end v → ⊥) → (phase ≡ awaits_ack (wires.Question.offers v) → ⊥) →
    (phase ≡ sends_end v) ⊎ (phase ≡ awaits_ack (wires.Question.offers v)) → ⊥
no_phase phase v no_end no_ack h = ⊎_elim no_end no_ack h

-- a piece follows, behind which some threads of one core may be at rest
pub record FollowsSo (g : Setting) (old : Roles) (before : Watched) (x : Counted (of_kernel g.program)) (w : Watched) : Type 0 where
  pub core : ℕ
  pub there : core < 4
  pub may_rest : (core thread : ℕ) → Bool
  pub elsewhere : (d u : ℕ) → d ≢ core → may_rest d u ≡ false
  pub follows : Follows g may_rest old before x w

-- a thread that doesn't run has no step
pub idle_thread : (h : Home) (a : CoreState) (t : ℕ) (thread : Thread) → slice_get a.threads t ≡ Some thread → (thread.mode ≡ Unused) ⊎ ((thread.mode ≡ Waiting) ⊎ (thread.mode ≡ Trapped)) → (slot h a t ≡ Idle) ⊎ (slot h a t ≡ Paused)
idle_thread h a t thread there (inl e) = inl (ap (turn_at h a t) there ∙ ap (turn_of h a t thread) e)
idle_thread h a t thread there (inr (inl e)) = inr (ap (turn_at h a t) there ∙ ap (turn_of h a t thread) e)
idle_thread h a t thread there (inr (inr e)) = inl (ap (turn_at h a t) there ∙ ap (turn_of h a t thread) e)

-- no turn is no step
no_step : {A : Type 0} (h : Home) (w m : Machine) (c t : ℕ) (a : CoreState) (did : Did CoreState) → (did ≡ Idle) ⊎ (did ≡ Paused) → stepped h w c t a did ≡ Some m → A
no_step h w m c t a did (inl i) e = no_machine m (sym (ap (stepped h w c t a) i) ∙ e)
no_step h w m c t a did (inr p) e = no_machine m (sym (ap (stepped h w c t a) p) ∙ e)

-- and where the branch is the same
abbrev pub stand_of : (g : Setting) (r : Runner) (rests : Bool) (hand : Option Acquired) (a : CoreState) (x : World) (life : Life) (actions : ℕ → ℕ) (branch branch' : Branch) → branch ≡ branch' → RunsBranch g r rests hand a x life actions branch → RunsBranch g r rests hand a x life actions branch'
stand_of g r rests hand a x life actions branch branch' e h = record {
  core = subst (λ (b : Branch). b.core ≡ r.core) e h.core;
  family = subst (λ (b : Branch). b.family ≡ r.family) e h.family;
  footprint = subst (λ (b : Branch). r.footprint ≡ footprint_of b.items) e h.footprint;
  parents = h.parents;
  thread = subst (λ (b : Branch). HasThread g r b.mode b.items a) e h.thread;
  in_hand = subst (λ (b : Branch). AcquiredFits b.items hand) e h.in_hand;
  sides = subst (λ (b : Branch). b.sides ≡ r.sides) e h.sides;
  inside = subst (λ (b : Branch). b.inside ≡ r.inside) e h.inside;
  done = subst (λ (b : Branch). b.mode ≡ ended → r.transfer ≡ None) e h.done;
  stops = subst (λ (b : Branch). b.mode ≡ erred → StopsIn r.transfer) e h.stops;
  ends_tied = subst (λ (b : Branch). b.mode ≡ ended → r.parents ≡ [] → (n : ℕ) × (r.tie ≡ Some n)) e h.ends_tied;
  left = h.left;
  bound = h.bound;
  by = subst (λ (b : Branch). ProgressBy g r rests b.items b.mode h.left (record { core = a; world = x; hand = hand })) e h.by;
}

module _ (moment : Moment none_rests)
    (c t : ℕ) (a : CoreState) (at_c : slice_get moment.watched.machine.cores c ≡ Some a) (m : Machine) where
  open moment use {setting as g, image as is, roles as who, watched as w, told as x, standing as st}

  abbrev Goal : Type 0
  Goal = FollowsSo g who w x (watched_after w (Step c t) m)

  module _ (r : Runner) (hand : Option Acquired) (runs_r : who c t ≡ used_by r hand)
      (branch : Branch) (known : slice_get x.state.branches r.branch ≡ Some branch) (stand : RunsBranch g r false hand a x.state (w.lives c t) x.actions branch) where
    abbrev now : ThreadView
    now = record { core = a; world = x.state; hand = hand }

    -- what the thread's turn leaves, where it is a step
    abbrev Leaves : Did CoreState → Type 0
    Leaves did = stepped (home g r) w.machine r.core r.thread a did ≡ Some m

    abbrev thread_here : ThreadAt moment hand
    thread_here = thread_of moment c t a at_c r hand runs_r

    core_is : r.core ≡ c
    core_is = st.roles.core c t r hand runs_r

    here : Rely g r now now
    here = kept_now moment c t a r hand at_c runs_r

    -- the machine is the one behind such a step
    goal_of : (may_rest : (core thread : ℕ) → Bool) → ((d u : ℕ) → d ≢ c → may_rest d u ≡ false) →
        (b : CoreState) (made : Option Record) (sent : List Sent) →
        stepped (home g r) w.machine r.core r.thread a (slot (home g r) a r.thread) ≡ Some (behind_step w.machine r.core b made sent) →
        Leaves (slot (home g r) a r.thread) →
        Follows g may_rest who w x (watched_after w (Step c t) (behind_step w.machine c b made sent)) → Goal
    goal_of may_rest elsewhere b made sent is_step e h =
        let left_is : Some (behind_step w.machine c b made sent) ≡ Some m = ap (λ k. Some (behind_step w.machine k b made sent))
        (sym core_is) ∙ sym is_step ∙ e in
        record {
          core = c;
          there = st.roles.there c t r hand runs_r;
          may_rest = may_rest;
          elsewhere = elsewhere;
          follows = subst (λ n. Follows g may_rest who w x (watched_after w (Step c t) n)) (same_Some _ m left_is) h;
        }

    -- a slot that the program follows
    by_followed : IsFollowed g who w x c t r a (slot (home g r) a r.thread) → Leaves (slot (home g r) a r.thread) → Goal
    by_followed (rows.pauses p) e = no_step (home g r) w.machine m r.core r.thread a (slot (home g r) a r.thread) (inr p) e
    by_followed (followed may_rest elsewhere b made sent is_step h) e = goal_of may_rest elsewhere b made sent is_step e h

    -- the thread goes on, errs or ends, or takes a step of a transfer, with nothing in hand
    module _ (none : hand ≡ None) where
      abbrev alone : ThreadView
      alone = record { core = a; world = x.state; hand = None }

      runs_alone : who c t ≡ used_by r None
      runs_alone = runs_r ∙ ap (used_by r) none

      abbrev stand_alone : RunsBranch g r false None a x.state (w.lives c t) x.actions branch
      stand_alone = stand_as g r false hand None a x.state (w.lives c t) x.actions branch none stand

      abbrev thread_alone : ThreadAt moment None
      thread_alone = thread_of moment c t a at_c r None runs_alone

      abbrev here_alone : BranchAt thread_alone
      here_alone = branch_of thread_alone branch known stand_alone

      -- inside a transfer of which nothing is late
      in_transfer : branch.mode ≡ runs → (channel : ℕ) (side : Side) (phase : Phase) → r.transfer ≡ Some (in_phase channel side phase) → (j : ℕ) →
          steps_left phase + j + cost g r ≤ stand.left → (h : InTransfer g r (in_phase channel side phase) branch.items j alone) →
          GoesWith phase channel h.pos branch.items → Leaves (slot (home g r) a r.thread) → Goal
      in_transfer on channel side between its j few h goes e = absurd goes
      in_transfer on channel side (sends_end v) its j few h goes e =
          by_followed (sends_end_followed here_alone on channel side v [] its j few h) e
      in_transfer on channel side (awaits_ack (wires.Question.offers v)) its j few h goes e =
          by_followed (answer_followed here_alone on channel side v its j few h goes) e
      in_transfer on channel side (awaits_ack opens) its j few h goes e = absurd goes
      in_transfer on channel side (awaits_ack closes) its j few h goes e = absurd goes
      in_transfer on channel side checks_end its j few h goes e =
          by_followed (checks_end_followed here_alone on channel side its j few h goes) e
      in_transfer on channel side sends_ack its j few h goes e = by_followed (sends_ack_followed here_alone on channel side its j few h) e
      in_transfer on channel side was_closed its j few h goes e = absurd goes
      in_transfer on channel side streams its j few h goes e = absurd goes

      -- inside one whose offer isn't put yet
      in_late : branch.mode ≡ runs → (channel : ℕ) (side : Side) (phase : Phase) (late : List Parcel) →
          r.transfer ≡ Some (owing channel side phase late) → (j : ℕ) → steps_left phase + j + cost_behind g r late ≤ stand.left →
          (h : InTransfer g r (owing channel side phase late) branch.items j alone) →
          IsUnput (owing channel side phase late) h.pos branch.items x.state → Leaves (slot (home g r) a r.thread) → Goal
      in_late on channel side (sends_end v) late its j few h u e =
          by_followed (sends_end_followed here_alone on channel side v late its j few h) e
      in_late on channel side (awaits_ack (wires.Question.offers v)) late its j few h u e =
          by_followed (late_answer_followed here_alone on channel side v late its j (omega (arith, few)) h u) e
      in_late on channel side between late its j few h u e = absurd (no_phase between u.value (λ f. cc) (λ f. cc) u.phase)
      in_late on channel side (awaits_ack opens) late its j few h u e = absurd (no_phase (awaits_ack opens) u.value (λ f. cc) (λ f. cc) u.phase)
      in_late on channel side (awaits_ack closes) late its j few h u e = absurd (no_phase (awaits_ack closes) u.value (λ f. cc) (λ f. cc) u.phase)
      in_late on channel side checks_end late its j few h u e = absurd (no_phase checks_end u.value (λ f. cc) (λ f. cc) u.phase)
      in_late on channel side sends_ack late its j few h u e = absurd (no_phase sends_ack u.value (λ f. cc) (λ f. cc) u.phase)
      in_late on channel side was_closed late its j few h u e = absurd (no_phase was_closed u.value (λ f. cc) (λ f. cc) u.phase)
      in_late on channel side streams late its j few h u e = absurd (no_phase streams u.value (λ f. cc) (λ f. cc) u.phase)

      -- by whether it is
      by_late : branch.mode ≡ runs → (transfer : Transfer) → r.transfer ≡ Some transfer → (j : ℕ) →
          steps_left transfer.phase + j + cost_behind g r transfer.late ≤ stand.left → (h : InTransfer g r transfer branch.items j alone) →
          LeftTo transfer h.pos branch.items x.state → Leaves (slot (home g r) a r.thread) → Goal
      by_late on transfer its j few h (on_time none_late goes) e =
          in_transfer on transfer.channel transfer.side transfer.phase (its ∙ ap (λ l. Some (record transfer { late = l })) none_late) j
          (subst (λ l. steps_left transfer.phase + j + cost_behind g r l ≤ stand.left) none_late few)
          (record {
            pos = h.pos;
            left = on_time refl goes;
            stands_in = h.stands_in;
            no_hand = h.no_hand;
            pc = h.pc;
            regs = h.regs;
            here = h.here;
            steps = h.steps;
            fits = h.fits;
            has = h.has;
          }) goes e
      by_late on transfer its j few h (unput u) e = in_late on transfer.channel transfer.side transfer.phase transfer.late its j few h u e

      -- outside of one
      err_goal : r.transfer ≡ None → Errs g r alone → Leaves (slot (home g r) a r.thread) → Goal
      err_goal outside h e = by_followed (errs_followed here_alone (subst StopsIn (sym outside) tt) h) e

      piece_goal : r.transfer ≡ None → branch.mode ≡ runs → (j : ℕ) → j ≤ stand.left → (piece : Piece) → Communicates g r piece j alone →
          Leaves (slot (home g r) a r.thread) → Goal
      piece_goal outside on j few (puts_out o v) h e = by_followed (offer_followed here_alone on outside j few o v h) e
      piece_goal outside on j few (takes_in i) h e = by_followed (input_followed here_alone on outside j few i h) e

      go_goal : r.transfer ≡ None → (j : ℕ) → j ≤ stand.left → Goes g r j alone → Leaves (slot (home g r) a r.thread) → Goal
      go_goal outside j few h e =
          goal_of (rests_alone c t) (λ d u ne. alone_elsewhere c (nat_eq u t) d ne) h.left h.made []
          (ap (stepped (home g r) w.machine r.core r.thread a) h.made_is) e
          (goes_answered here_alone outside j few h)

      free_goal : r.transfer ≡ None → Frees g r alone → Leaves (slot (home g r) a r.thread) → Goal
      free_goal outside h e =
          goal_of none_rests (λ d u ne. refl) h.left None [] (ap (stepped (home g r) w.machine r.core r.thread a) h.made_is) e
          (frees_answered here_alone outside h)

      wait_goal : r.transfer ≡ None → Waits g r alone → Leaves (slot (home g r) a r.thread) → Goal
      wait_goal outside h e =
          goal_of none_rests (λ d u ne. refl) h.left None [] (ap (stepped (home g r) w.machine r.core r.thread a) h.made_is) e
          (waits_answered here_alone outside h)

    -- at a select
    select_goal : hand ≡ None → r.transfer ≡ None → (j : ℕ) → j ≤ stand.left → SelectGoes g r j now → Leaves (slot (home g r) a r.thread) → Goal
    select_goal none out j few (inl (p, cannot)) e = no_step (home g r) w.machine m r.core r.thread a (slot (home g r) a r.thread) (inr p) e
    select_goal none out j few (inr h) e = go_goal none out j few (subst (λ k. Goes g r j (record { core = a; world = x.state; hand = k })) none h) e

    -- the turn at an item's own instruction
    at_turn : branch.mode ≡ runs → r.transfer ≡ None → (j : ℕ) → j ≤ stand.left → NextStep g r j now → Leaves (slot (home g r) a r.thread) → Goal
    at_turn on out j few (pauses p none) e = no_step (home g r) w.machine m r.core r.thread a (slot (home g r) a r.thread) (inr p) e
    at_turn on out j few (errs h) e = err_goal h.no_hand out (subst (λ k. Errs g r (record { core = a; world = x.state; hand = k })) h.no_hand h) e
    at_turn on out j few (goes_on h) e = go_goal h.no_hand out j few (subst (λ k. Goes g r j (record { core = a; world = x.state; hand = k })) h.no_hand h) e
    at_turn on out j few (frees h) e = free_goal h.no_hand out (subst (λ k. Frees g r (record { core = a; world = x.state; hand = k })) h.no_hand h) e
    at_turn on out j few (waits_tied h) e = wait_goal h.no_hand out (subst (λ k. Waits g r (record { core = a; world = x.state; hand = k })) h.no_hand h) e
    at_turn on out j few (communicates piece h) e =
        piece_goal h.no_hand out on j few piece
        (subst (λ k. Communicates g r piece j (record { core = a; world = x.state; hand = k })) h.no_hand h) e
    at_turn on out j few (at_select h) e = select_goal h.no_hand out j few (selects_alike thread_here out j h) e
    at_turn on out j few (begins h) e =
        let same : branch ≡ h.branch = same_Some branch h.branch (sym known ∙ h.does_par.known) in
        let stand' = stand_of g r false hand a x.state (w.lives c t) x.actions branch h.branch same stand in
        goal_of (begun.rests thread_here j h) (λ d u ne. alone_elsewhere c (begun.moved thread_here j h u) d ne)
        (begun.left thread_here j h) None []
        (ap (stepped (home g r) w.machine r.core r.thread a) h.goes) e
        (begins_followed thread_here j h stand' out few)

    -- a silent step
    on_the_way : (z : ThreadView) → ((mode : ThreadMode) → mode ≡ Running → ThreadIs r.parents branch.mode mode) →
        ((bit : Bool) → bit ≡ false → EventsAre branch.mode branch.items bit) → IsSilentStep g r now z → (left : ℕ) →
        suc left ≤ stand.left → ProgressBy g r false branch.items branch.mode left z → Leaves (slot (home g r) a r.thread) → Goal
    on_the_way z alive calm silent left few by e =
        goal_of none_rests (λ d u ne. refl) z.core None [] (ap (stepped (home g r) w.machine r.core r.thread a) silent.made) e
        (silent_followed (branch_of thread_here branch known stand) z alive calm silent left few by)

    -- a branch that runs
    running_alive : branch.mode ≡ runs → (mode : ThreadMode) → mode ≡ Running → ThreadIs r.parents branch.mode mode
    running_alive is_running mode e = subst (λ k. ThreadIs r.parents k mode) (sym is_running) e

    -- which takes no events before a silent step, and so none behind it
    running_calm : branch.mode ≡ runs → (z : ThreadView) → IsSilentStep g r now z → (bit : Bool) → bit ≡ false →
        EventsAre branch.mode branch.items bit
    running_calm is_running z silent bit e =
        let same : stand.thread.thread ≡ silent.was.thread = same_Some stand.thread.thread silent.was.thread
        (sym stand.thread.there ∙ silent.was.there) in
        let is = subst (λ k. EventsAre k branch.items stand.thread.thread.event_bit) is_running stand.thread.events in
        events_on branch.mode branch.items bit is_running (e ∙ sym silent.was.no_events ∙ ap (λ (i : Thread). i.event_bit) (sym same) ∙ is)

    by_way : branch.mode ≡ runs → r.transfer ≡ None → (n j : ℕ) → n + j ≤ stand.left → LeadsIn g r (StableNextStep g r j) n now → Leaves (slot (home g r) a r.thread) → Goal
    by_way running out zero j few leads e = at_turn running out j (omega arith) (leads now here) e
    by_way running out (suc n) j few (inl leads) e = at_turn running out j (omega arith) (leads now here) e
    by_way running out (suc n) j few (inr on) e =
        let next = on now here in
        on_the_way next.0 (running_alive running) (running_calm running next.0 next.1) next.1 (n + j) (omega arith)
        (subst (λ k. ProgressBy g r false branch.items k (n + j) next.0) (sym running) (subst (λ o. ProgressWith g r false o branch.items (n + j) next.0) (sym out) (inl (n, j, omega arith, next.2)))) e

    -- one that gives a synchroniser back
    by_resuming : branch.mode ≡ runs → r.transfer ≡ None → (j : ℕ) → 1 + j + cost g r ≤ stand.left → GivesBack g r branch.items j now → Leaves (slot (home g r) a r.thread) → Goal
    by_resuming running out j few h e =
        let in_hand : hand ≡ giving_back h.sync = h.in_hand in
        let stand' = stand_as g r false hand (giving_back h.sync) a x.state (w.lives c t) x.actions branch in_hand stand in
        let h' = subst (λ k. GivesBack g r branch.items j (record { core = a; world = x.state; hand = k })) in_hand h in
        let thread' = thread_of moment c t a at_c r (giving_back h.sync) (runs_r ∙ ap (used_by r) in_hand) in
        goal_of (rests_alone c t) (λ d u ne. alone_elsewhere c (nat_eq u t) d ne)
        (resumes.left thread' branch known running stand' out j few h') None []
        (ap (stepped (home g r) w.machine r.core r.thread a) (resumes.made_is thread' branch known running stand' out j few h')) e
        (resumes_followed thread' branch known running stand' out j few h')

    -- one that has ended, and others wait for it
    module _ (p : Parent) (ps : List Parent) (parents : r.parents ≡ p ∷ ps) (over : branch.mode ≡ ended) where
      ended_alive : (mode : ThreadMode) → mode ≡ Running → ThreadIs r.parents branch.mode mode
      ended_alive mode e = subst (λ k. ThreadIs r.parents k mode) (sym over) (subst (λ l. ThreadIs l ended mode) (sym parents) e)

      ended_calm : (bit : Bool) → bit ≡ false → EventsAre branch.mode branch.items bit
      ended_calm bit e = subst (λ k. EventsAre k branch.items bit) (sym over) e

      by_join : (j : ℕ) → j ≤ stand.left → JoinsAt g r p ps j now → Leaves (slot (home g r) a r.thread) → (b : Bool) → (sync : ℕ) → p.sync ≡ Some sync → all_wait a.threads sync ≡ b → Goal
      by_join j few h e false sync is_sync wait =
          no_step (home g r) w.machine m r.core r.thread a (slot (home g r) a r.thread) (inr (h.pauses (ap (all_wait a.threads) (same_Some h.sync sync (sym h.sync_is ∙ is_sync)) ∙ wait))) e
      by_join j few h e true sync is_sync wait =
          let none : hand ≡ None = h.no_hand in
          let h' = subst (λ k. JoinsAt g r p ps j (record { core = a; world = x.state; hand = k })) none h in
          goal_of (rests_alone c t) (λ d u ne. alone_elsewhere c (nat_eq u t) d ne)
          (joined.left (thread_alone none) p ps parents sync is_sync branch known over wait j (stand_alone none) few h') None []
          (ap (stepped (home g r) w.machine r.core r.thread a)
          (joined.made_is (thread_alone none) p ps parents sync is_sync branch known over wait j (stand_alone none) few h')) e
          (joins_followed (thread_alone none) p ps parents sync is_sync branch known over wait j (stand_alone none) few h')

      by_joining : (n j : ℕ) → n + j ≤ stand.left → LeadsIn g r (Joins g r p ps j) n now → Leaves (slot (home g r) a r.thread) → Goal
      by_joining zero j few leads e = let h = leads now here in by_join j (omega arith) h e (all_wait a.threads h.sync) h.sync h.sync_is refl
      by_joining (suc n) j few (inl leads) e = let h = leads now here in by_join j (omega arith) h e (all_wait a.threads h.sync) h.sync h.sync_is refl
      by_joining (suc n) j few (inr on) e =
          let next = on now here in
          on_the_way next.0 ended_alive ended_calm next.1 (n + j) (omega arith)
          (subst (λ k. ProgressBy g r false branch.items k (n + j) next.0) (sym over) (subst (λ l. HasEnded g r l (n + j) next.0) (sym parents) (n, j, omega arith, next.2))) e

    -- however it is
    by_parents : (ps : List Parent) → r.parents ≡ ps → branch.mode ≡ ended → HasEnded g r ps stand.left now → Leaves (slot (home g r) a r.thread) → Goal
    by_parents [] parents over h e =
        no_step (home g r) w.machine m r.core r.thread a (slot (home g r) a r.thread)
        (idle_thread (home g r) a r.thread stand.thread.thread stand.thread.there (inr (inl (subst (λ l. ThreadIs l ended stand.thread.thread.mode) parents (subst (λ k. ThreadIs r.parents k stand.thread.thread.mode) over stand.thread.is))))) e
    by_parents (p ∷ ps) parents over (n, j, few, leads) e = by_joining p ps parents over n j few leads e

    trapped_mode : (ps : List Parent) → ThreadIs ps erred stand.thread.thread.mode → stand.thread.thread.mode ≡ Trapped
    trapped_mode [] h = h
    trapped_mode (p ∷ ps) h = h

    -- one that runs, outside of a transfer or inside one
    by_transfer : branch.mode ≡ runs → (o : Option Transfer) → r.transfer ≡ o → ProgressWith g r false o branch.items stand.left now → Leaves (slot (home g r) a r.thread) → Goal
    by_transfer running None out (inl (n, j, few, leads)) e = by_way running out n j few leads e
    by_transfer running None out (inr (inl (j, few, h))) e = by_resuming running out j few h e
    by_transfer running None out (inr (inr h)) e = absurd h
    by_transfer running (Some transfer) its (j, few, h) e =
        let h' = subst (λ k. InTransfer g r transfer branch.items j (record { core = a; world = x.state; hand = k })) h.no_hand h in
        by_late h.no_hand running transfer its j few h' h'.left e

    by_mode : (mode : Mode) → branch.mode ≡ mode → ProgressBy g r false branch.items mode stand.left now → Leaves (slot (home g r) a r.thread) → Goal
    by_mode runs is_running h e = by_transfer is_running r.transfer refl h e
    by_mode (waits from count) is_waiting h e = absurd h
    by_mode ended over h e = by_parents r.parents refl over h e
    by_mode erred over h e =
        no_step (home g r) w.machine m r.core r.thread a (slot (home g r) a r.thread)
        (idle_thread (home g r) a r.thread stand.thread.thread stand.thread.there (inr (inr (trapped_mode r.parents (subst (λ k. ThreadIs r.parents k stand.thread.thread.mode) over stand.thread.is))))) e

  -- wherever the branch stands
  at_branch : (r : Runner) (hand : Option Acquired) → who c t ≡ used_by r hand → (o : Option Branch) → slice_get x.state.branches r.branch ≡ o → SomeIs o (RunsBranch g r false hand a x.state (w.lives c t) x.actions) → stepped (home_of g.image g.stimulus c) w.machine c t a (slot (home_of g.image g.stimulus c) a t) ≡ Some m → Goal
  at_branch r hand runs_r None known h e = absurd h
  at_branch r hand runs_r (Some branch) known h e =
      let core = st.roles.core c t r hand runs_r in
      let thread = st.roles.thread c t r hand runs_r in
      let turned : stepped (home g r) w.machine r.core r.thread a (slot (home g r) a r.thread) ≡ Some m =
      ap (λ k. stepped (home_of g.image g.stimulus k) w.machine k r.thread a (slot (home_of g.image g.stimulus k) a r.thread)) core
      ∙ ap (λ k. stepped (home_of g.image g.stimulus c) w.machine c k a (slot (home_of g.image g.stimulus c) a k)) thread
      ∙ e in
      by_mode r hand runs_r branch known h branch.mode refl h.by turned

  free_thread_of : (o : Option Thread) → slice_get a.threads t ≡ o → IsFree o → (thread : Thread) × (slice_get a.threads t ≡ Some thread) × (thread.mode ≡ Unused)
  free_thread_of None e h = absurd h
  free_thread_of (Some thread) e h = (thread, e, h.unused)

  waiting_thread_of : (n : ℕ) (o : Option Thread) → slice_get a.threads t ≡ o → IsWaitingTied n o → (thread : Thread) × (slice_get a.threads t ≡ Some thread) × (thread.mode ≡ Waiting)
  waiting_thread_of n None e h = absurd h
  waiting_thread_of n (Some thread) e h = (thread, e, h.waits)

  -- a thread that is out of range has no turn
  outside : (o : Option Thread) → slice_get a.threads t ≡ o → who c t ≡ unused → stepped (home_of g.image g.stimulus c) w.machine c t a (slot (home_of g.image g.stimulus c) a t) ≡ Some m → Goal
  outside None there free e = no_step (home_of g.image g.stimulus c) w.machine m c t a (slot (home_of g.image g.stimulus c) a t) (inl (ap (turn_at (home_of g.image g.stimulus c) a t) there)) e
  outside (Some thread) there free e =
      let used = st.used c a at_c in
      let eight = used.threads in
      let lt = slice_get_within a.threads t thread there in
      let f = free_thread_of (slice_get a.threads t) refl (used.unused t (omega arith) free) in
      no_step (home_of g.image g.stimulus c) w.machine m c t a (slot (home_of g.image g.stimulus c) a t) (idle_thread (home_of g.image g.stimulus c) a t f.0 f.1 (inl f.2)) e

  pub step_followed : (role : Role) → who c t ≡ role → ThreadRel g false a x.state (w.lives c t) x.actions role → stepped (home_of g.image g.stimulus c) w.machine c t a (slot (home_of g.image g.stimulus c) a t) ≡ Some m → Goal
  step_followed unused is_role h e = outside (slice_get a.threads t) refl is_role e
  step_followed (got_by k) is_role h e =
      let q = st.roles.got c t k is_role in
      let holder = works_at moment c k q.0 q.1 q.2 in
      let sync = hand_sync holder.branch.items q.1 t holder.in_hand q.3 in
      let f = waiting_thread_of sync.0 (slice_get a.threads t) refl ((st.used c a at_c).got t k sync.0 q.0 q.1 is_role q.2 sync.1) in
      no_step (home_of g.image g.stimulus c) w.machine m c t a (slot (home_of g.image g.stimulus c) a t) (idle_thread (home_of g.image g.stimulus c) a t f.0 f.1 (inr (inl f.2))) e
  step_followed (used_by r hand) is_role h e = at_branch r hand is_role (slice_get x.state.branches r.branch) refl h e

module _ (moment : Moment none_rests) (m : Machine) where
  open moment use {setting as g, roles as who, watched as w, told as x, standing as st}

  -- wherever the core is
  at_core : (c t : ℕ) (o : Option CoreState) → slice_get w.machine.cores c ≡ o → step_at (home_of g.image g.stimulus c) w.machine c t o ≡ Some m → FollowsSo g who w x (watched_after w (Step c t) m)
  at_core c t None at_c e = no_machine m e
  at_core c t (Some a) at_c e = step_followed moment c t a at_c m (who c t) refl (st.threads c t a at_c) e

  -- a core's tick
  at_clock : (c : ℕ) (o : Option CoreState) → slice_get w.machine.cores c ≡ o → tick_at w.machine c o ≡ Some m → FollowsSo g who w x (watched_after w (Tick c) m)
  at_clock c None at_c e = no_machine m e
  at_clock c (Some a) at_c e = record {
    core = 0;
    there = omega arith;
    may_rest = none_rests;
    elsewhere = λ d u ne. refl;
    follows = tick_followed moment c a at_c m e;
  }

  -- what comes over a link
  at_end_core : (from to : ℕ) (i : Item) (rest : List Item) → link_of w.machine.links from to ≡ i ∷ rest → (o : Option CoreState) →
      slice_get w.machine.cores to ≡ o → move_to w.machine from to i rest o ≡ Some m → FollowsSo g who w x (watched_after w (Move from to) m)
  at_end_core from to i rest on_link None at e = no_machine m e
  at_end_core from to i rest on_link (Some a) at e = record {
    core = 0;
    there = omega arith;
    may_rest = none_rests;
    elsewhere = λ d u ne. refl;
    follows = subst (λ n. Follows g none_rests who w x (watched_after w (Move from to) n)) (same_Some _ m e)
        (move_followed moment from to a at i rest on_link);
  }

  at_link : (from to : ℕ) (items : List Item) → link_of w.machine.links from to ≡ items → move_at w.machine from to items ≡ Some m →
      FollowsSo g who w x (watched_after w (Move from to) m)
  at_link from to [] on_link e = no_machine m e
  at_link from to (i ∷ rest) on_link e = at_end_core from to i rest on_link (slice_get w.machine.cores to) refl e

  -- Each event is followed by a piece of the program's run; behind it some threads may be at rest.
  pub event_answered : (event : Event) → does g.image g.stimulus w.machine event ≡ Some m → FollowsSo g who w x (watched_after w event m)
  event_answered (Step c t) h = at_core c t (slice_get w.machine.cores c) refl h
  event_answered (Tick c) h = at_clock c (slice_get w.machine.cores c) refl h
  event_answered (Move from to) h = at_link from to (link_of w.machine.links from to) refl h
