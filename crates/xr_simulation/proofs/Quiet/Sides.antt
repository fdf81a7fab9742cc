-- Where the machine is quiet, a step on a channel's end waits, and nothing goes on at any side of a channel.
use Rattle.std.proofs.Common.{◌≡◌, ◌⊎◌, ℕ, ◌<◌, List, [], ◌∷◌, length, Option, Some, refl, sym, ap, ◌∙◌, subst, inl, inr, arith}
use Rattle.std.specs.Prelude.{true, false, nat_le, slice_get}
use Rattle.std.proofs.lemmas.Option.{none-some}
use Rattle.xw_words.specs.declared.pos.Pos.{Pos}
use Rattle.xs_instr.specs.declared.instr.Reg.{Reg}
use Rattle.xs_instr.specs.declared.state.ChanEnd.{ChanEnd}
use Rattle.xs_instr.specs.declared.state.CoreState.{CoreState}
use Rattle.xs_instr.specs.declared.state.Regs.{Regs}
use Rattle.xs_instr.specs.declared.state.Thread.{Thread}
use Rattle.xs_instr.specs.declared.state.Token.{Token}
use Rattle.xs_instr.specs.Ends.{NotYet, control_token, take_word}
use Rattle.xs_instr.specs.Machine.{link_of}
use Rattle.xs_instr.specs.Rows.{gets_with, goes_with, put_ends}
use Rattle.xc_meaning.specs.States.Branches.{Branch, Mode, ended, erred, runs, waits}
use Rattle.xc_meaning.specs.States.Channels.{Inboxes, Parcel, Side, other_side}
use Rattle.xc_meaning.specs.States.Items.{Item}
use Rattle.xc_meaning.specs.States.Worlds.{World}
use Rattle.xl_chan.specs.Protocols as protocol
use Rattle.xl_chan.specs.Protocols.{Act, Acts, sends, takes_word}
use Rattle.xl_image.specs.Images.{pair_of}
use Rattle.xl_par.specs.Acquired.{Acquired}
use Rattle.xl_plan.specs.Layout.{core_of}
use Rattle.xr_match.specs.Implements.{IsQuietMachine}
use Rattle.xr_simulation.specs.Roles.{used_by}
use Rattle.xr_simulation.specs.Runners.{Runner, end_place, home}
use Rattle.xr_simulation.specs.ThreadViews.{ThreadView, running}
use Rattle.xr_simulation.specs.MatchStates.{RunsBranch, ProgressBy, ProgressWith, none_rests}
use Rattle.xr_simulation.specs.Transfers.{GoesWith, IsAwaiting, StopsIn, Transfer, acts_left, items_behind}
use Rattle.xr_simulation.specs.NextStep.{IsBehind, LeftTo, TakesSteps, on_time, unput}
use Rattle.xr_simulation.specs.Wired.{IsLine, IsTransferring, SideIs, idle, boxes_in, in_transfer}
use Rattle.xr_simulation.proofs.Channels.Ends.{acts_there, end, end_is, quiet_end}
use Rattle.xr_simulation.proofs.Relation.Moments.{Moment, ThreadAt, thread_of}
use Rattle.xr_simulation.proofs.Relation.CoreSteps.{core_of as the_core, stands_at}
use Rattle.xr_simulation.proofs.Quiet.Slots.{lacks_credits, lacks_tokens, lacks_word}
use Rattle.xr_simulation.proofs.Channels.Wiring.{late_inside, wired_inside}
use Rattle.xr_simulation.proofs.OwnSteps.Branch.{some_is}
use Rattle.xr_channels.specs.Phases.{Direction, Phase, SideState, awaits_ack, between, checks_end, closes, offers, opens, sends_ack, sends_end, side_state, streams, unsent, was_closed}
use Rattle.xr_channels.specs.Channels.{Ghosts, end_of_side}
use Rattle.xr_channels.proofs.All.QuietPauses.{Goes, MayGo, QuietEnd, goes}
use Rattle.xr_channels.proofs.All.OverLinks.{quiet_on_time}
use Rattle.xr_channels.proofs.Laws.AnyDistance.{no_move_is_quiet}
use Rattle.xr_channels.proofs.All.Pauses.{Enabled, may_answer, may_check, may_check_end, may_close, may_end}
use Rattle.xr_channels.proofs.Sides.Plain.{IsPlain}

-- a thread that goes on in a transfer is in an output or an input
plain_where_goes : (f : Phase) (c : ℕ) (pos : Pos) (items : List Item) → GoesWith f c pos items → IsPlain f
plain_where_goes between c pos items h = absurd h
plain_where_goes (sends_end v) c pos items h = tt
plain_where_goes (awaits_ack (offers v)) c pos items h = tt
plain_where_goes (awaits_ack opens) c pos items h = absurd h
plain_where_goes (awaits_ack closes) c pos items h = absurd h
plain_where_goes checks_end c pos items h = tt
plain_where_goes sends_ack c pos items h = tt
plain_where_goes was_closed c pos items h = absurd h
plain_where_goes streams c pos items h = absurd h

-- and so is one that has trapped as it awaited an answer
plain_where_awaits : (f : Phase) → IsAwaiting f → IsPlain f
plain_where_awaits between h = absurd h
plain_where_awaits (sends_end v) h = absurd h
plain_where_awaits (awaits_ack (offers v)) h = tt
plain_where_awaits (awaits_ack opens) h = absurd h
plain_where_awaits (awaits_ack closes) h = absurd h
plain_where_awaits checks_end h = absurd h
plain_where_awaits sends_ack h = absurd h
plain_where_awaits was_closed h = absurd h
plain_where_awaits streams h = absurd h

-- one that awaits an answer has sent all
pub awaiting_sent : (f : Phase) → IsAwaiting f → unsent f ≡ []
awaiting_sent between h = absurd h
awaiting_sent (sends_end v) h = absurd h
awaiting_sent (awaits_ack q) h = refl
awaiting_sent checks_end h = absurd h
awaiting_sent sends_ack h = absurd h
awaiting_sent was_closed h = absurd h
awaiting_sent streams h = absurd h

-- no row is enabled between pieces
none_between : (f : Phase) (l : Direction) (n : ℕ) → f ≡ between → Enabled f l n → ⊥
none_between f l n is (may_end v _ _ h) = cc
none_between f l n is (may_check q _ _ h) = cc
none_between f l n is (may_check_end _ _ h) = cc
none_between f l n is (may_answer _ _ h) = cc
none_between f l n is (may_close _ _ h) = cc

-- where nothing is late, what is left goes with the phase
pub goes_on_time : (transfer : Transfer) (pos : Pos) (items : List Item) (x : World) → transfer.late ≡ [] → LeftTo transfer pos items x →
    GoesWith transfer.phase transfer.channel pos items
goes_on_time transfer pos items x none (on_time nothing goes) = goes
goes_on_time transfer pos items x none (unput u) = absurd (not_empty (sym none ∙ u.late))
  where
    not_empty : {p : Parcel} → ◌≡◌ {A = List Parcel} [] (p ∷ []) → ⊥
    not_empty e = cc

module _ (moment : Moment none_rests)
    (quiet : IsQuietMachine moment.setting.image moment.setting.stimulus moment.watched.machine) where
  open moment use {setting as g, image as is, roles as who, watched as w, told as x, standing as st}

  abbrev boxes : List Inboxes
  boxes = boxes_in g.program x.state.inboxes

  abbrev ghosts : Ghosts
  ghosts = st.wired.ghosts

  -- nothing is on a link
  pub nothing_moves : (from to : ℕ) → link_of w.machine.links from to ≡ []
  nothing_moves = no_move_is_quiet g.image g.stimulus w.machine st.wired.over.balanced quiet.moves

  -- A thread is at a step on the end of a side of a channel: that waits.
  module _ {hand : Option Acquired} (thread_at : ThreadAt moment hand)
      (channel : ℕ) (side : Side) (line : ℕ) (is_line : IsLine g.program line channel)
      (on_core : core_of g.program channel side ≡ thread_at.core)
      (pos : Pos) (pc : ℕ) (regs : Regs)
      (here : slice_get thread_at.state.threads thread_at.runner.thread ≡ Some (running thread_at.runner.tie pc regs)) where
    open thread_at use {core as c, thread as t, state as a, at_core as at_c, runner as r, runs as runs_r}

    abbrev own_end : ChanEnd
    own_end = end thread_at channel side line is_line on_core

    abbrev place_end : ℕ
    place_end = (end_of_side (pair_of g.program channel) side).end

    abbrev thread : Thread
    thread = running r.tie pc regs

    abbrev own_quiet : QuietEnd
    own_quiet = quiet_end thread_at channel side line is_line on_core nothing_moves

    -- the end is there
    there : slice_get a.ends place_end ≡ Some own_end
    there = end_is thread_at channel side line is_line on_core

    -- and the step is one on it
    acts_so : (act : Act) → Acts (home g r) r.thread (end_place g r channel side) thread pos act pc regs → Acts (home g r) r.thread place_end thread pos act pc regs
    acts_so act h = acts_there thread_at channel side line is_line on_core r.tie pos act pc regs h

    -- one that sends lacks credits
    pub sends_wait : (ks : List Token) → Acts (home g r) r.thread (end_place g r channel side) thread pos (sends ks) pc regs → nat_le (length ks) own_end.credits ≡ false
    sends_wait ks h =
        lacks_credits thread_at quiet (goes_with put_ends a r.thread thread) ks place_end own_end
        ((acts_so (sends ks) h).by a own_end here there)

    -- one that awaits a control token has none
    pub checks_wait : (n : ℕ) → Acts (home g r) r.thread (end_place g r channel side) thread pos (protocol.takes n) pc regs → own_end.tokens ≡ []
    checks_wait n h =
        lacks_tokens thread_at quiet (goes_with put_ends a r.thread thread) n place_end own_end
        ((acts_so (protocol.takes n) h).by a own_end here there)

    -- one that awaits a word has fewer tokens than one
    pub word_waits : (to : Reg) → Acts (home g r) r.thread (end_place g r channel side) thread pos (takes_word to) pc regs → (take_word own_end.tokens ≡ NotYet) × (length own_end.tokens < 4)
    word_waits to h =
        lacks_word thread_at quiet (gets_with put_ends a r.thread thread to) place_end own_end
        ((acts_so (takes_word to) h).by a own_end here there)

    -- so no row of a piece that it is in is enabled
    none_enabled : (f : Phase) (items : List Item) (Q : ℕ → Regs → Type 0) → GoesWith f channel pos items → TakesSteps g r channel side pos (acts_left f) Q pc regs → ghosts.side_states line side ≡ side_state f false →
        Goes w.machine.cores boxes ghosts line (pair_of g.program channel) side → ⊥
    none_enabled f items Q with_items steps spot_is go = by f with_items steps
        (goes own_quiet f (ap (λ (s : SideState). s.phase) spot_is) go)
      where
        by : (f : Phase) → GoesWith f channel pos items → TakesSteps g r channel side pos (acts_left f) Q pc regs →
            MayGo own_quiet f → ⊥
        by between h steps may = h
        by (sends_end v) h steps may = let both : true ≡ false = sym may ∙ sends_wait (control_token 1 ∷ []) steps.0 in cc
        by (awaits_ack q) h steps may = let none = ap length (checks_wait 3 steps.0) in omega (arith, may, none)
        by checks_end h steps may = let none = ap length (checks_wait 1 steps.0) in omega (arith, may, none)
        by sends_ack h steps may = let both : true ≡ false = sym may ∙ sends_wait (control_token 3 ∷ []) steps.0 in cc
        by was_closed h steps may = h
        by streams h steps may = h

  -- A side of a channel on which nothing goes on: its phase is one of an output or an input, and its row isn't enabled, or its thread has trapped while it
  -- awaited an answer.
  pub record IsStuck (line channel : ℕ) (side : Side) : Type 0 where
    pub phase : Phase
    pub plain : IsPlain phase
    pub spot_is : ghosts.side_states line side ≡ side_state phase false
    pub stuck : IsAwaiting phase ⊎ (Goes w.machine.cores boxes ghosts line (pair_of g.program channel) side → ⊥)

  -- the side of a thread that is inside a transfer
  module _ (d u line : ℕ) (r : Runner) (hand : Option Acquired) (runs_r : who d u ≡ used_by r hand) (transfer : Transfer) (its : r.transfer ≡ Some transfer) (is_line : IsLine g.program line transfer.channel) (a : CoreState) (at_d : slice_get w.machine.cores d ≡ Some a) where
    -- the side is on its core
    on_core : core_of g.program transfer.channel transfer.side ≡ d
    on_core = (st.wired.listed d u transfer.channel transfer.side (record { runner = r; hand = hand; runs = runs_r; transfer = transfer; is = its; channel_is = refl; side_is = refl })).2

    -- and the side stands where the thread does
    spot_now : ghosts.side_states line transfer.side ≡ side_state transfer.phase false
    spot_now = wired_inside g who w.machine x.state st.wired d u line r hand transfer runs_r its is_line

    abbrev now : ThreadView
    now = record { core = a; world = x.state; hand = hand }

    -- nothing is late behind it
    late_now : transfer.late ≡ []
    late_now =
        sym (late_inside g who w.machine x.state st.wired d u line r hand transfer runs_r its is_line)
        ∙ quiet_on_time g.image.chans is.lines.wired w.machine.cores w.machine.links boxes ghosts st.wired.over nothing_moves line
        (pair_of g.program transfer.channel) (other_side transfer.side) (is.lines.line line transfer.channel is_line)

    -- one that goes on waits
    stuck_inside : (items : List Item) (left : ℕ) → ProgressWith g r false (Some transfer) items left now → IsStuck line transfer.channel transfer.side
    stuck_inside items left (j, few, h) = record {
      phase = transfer.phase;
      plain = plain_where_goes transfer.phase transfer.channel h.pos items (goes_with h.left);
      spot_is = spot_now;
      stuck = inr (none_enabled (thread_of moment d u a at_d r hand runs_r) transfer.channel transfer.side line is_line on_core h.pos h.pc
          h.regs h.here transfer.phase items (IsBehind g r (items_behind transfer.phase items) j) (goes_with h.left) h.steps spot_now);
    }
      where
        goes_with : LeftTo transfer h.pos items x.state → GoesWith transfer.phase transfer.channel h.pos items
        goes_with left = goes_on_time transfer h.pos items x.state late_now left

    -- one that has trapped awaited an answer
    stuck_trapped : StopsIn (Some transfer) → IsStuck line transfer.channel transfer.side
    stuck_trapped h = record { phase = transfer.phase; plain = plain_where_awaits transfer.phase h.0; spot_is = spot_now; stuck = inl h.0 }

    -- by how its branch is
    stuck_by : (branch : Branch) → RunsBranch g r false hand a x.state (w.lives d u) x.actions branch → (mode : Mode) → branch.mode ≡ mode → IsStuck line transfer.channel transfer.side
    stuck_by branch stand runs e = stuck_inside branch.items stand.left (subst (λ o. ProgressWith g r false o branch.items stand.left now) its (subst (λ m. ProgressBy g r false branch.items m stand.left now) e stand.by))
    stuck_by branch stand (waits from count) e = absurd (subst (λ m. ProgressBy g r false branch.items m stand.left now) e stand.by)
    stuck_by branch stand ended e = absurd (none-some transfer (sym (stand.done e) ∙ its))
    stuck_by branch stand erred e = stuck_trapped (subst StopsIn its (stand.stops e))

    -- nothing goes on there
    stuck_side : IsStuck line transfer.channel transfer.side
    stuck_side =
        let s = some_is (RunsBranch g r false hand a x.state (w.lives d u) x.actions) (slice_get x.state.branches r.branch)
        (stands_at moment d u a r hand at_d runs_r) in
        stuck_by s.0 s.2 s.0.mode refl

  -- nothing goes on where somebody is inside a transfer
  stuck_of : (line channel : ℕ) (side : Side) → IsLine g.program line channel → (d u : ℕ) → IsTransferring who d u channel side → IsStuck line channel side
  stuck_of line channel side is_line d u i =
      let e = the_core moment d u i.runner i.hand i.runs in
      subst (λ k. IsStuck line k side) i.channel_is
      (subst (λ s. IsStuck line i.transfer.channel s) i.side_is
      (stuck_side d u line i.runner i.hand i.runs i.transfer i.is (subst (IsLine g.program line) (sym i.channel_is) is_line) e.0 e.1))

  -- each side of a channel is so
  pub each_stuck : (line channel : ℕ) (side : Side) → IsLine g.program line channel → IsStuck line channel side
  each_stuck line channel side is_line = by (st.wired.stances line channel side is_line)
    where
      by : SideIs g who channel side (ghosts.side_states line side) (ghosts.late line (other_side side)) → IsStuck line channel side
      by (in_transfer d u i its_core e late) = stuck_of line channel side is_line d u i
      by (idle nobody e late) = record {
        phase = between;
        plain = tt;
        spot_is = e;
        stuck = inr
            (λ go. none_between _ _ _ (ap (λ (s : SideState). s.phase) e) go);
      }
