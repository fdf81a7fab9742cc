-- CHKCT ACK of an output whose offer isn't put yet: no answer can be there. Where another parcel stood first, the branch puts its offer and
-- then errs.
use Rattle.std.proofs.Common.{◌≡◌, ℕ, ◌+◌, ◌≤◌, ◌++◌, List, [], ◌∷◌, Some, None, refl, sym, ap, ◌∙◌, subst, arith}
use Rattle.std.specs.Prelude.{false, slice_set}
use Rattle.xs_instr.specs.declared.trace.Record.TheVariants.{Fault}
use Rattle.xs_instr.specs.declared.trace.Trap.TheVariants.{Mismatch}
use Rattle.xs_instr.specs.Did.{Traps}
use Rattle.xs_instr.specs.Machine.{stepped}
use Rattle.xs_instr.specs.Slot.{slot, trapped}
use Rattle.xc_meaning.specs.States.Branches.{Branch, runs}
use Rattle.xc_meaning.specs.States.Channels.{Parcel, Side, offer, other_side, taken}
use Rattle.xc_meaning.specs.States.Items.{awaits}
use Rattle.xl_image.specs.Images.{pair_of}
use Rattle.xr_match.specs.Meanings.{of_kernel}
use Rattle.xr_match.specs.Sources.{Counted}
use Rattle.xr_simulation.specs.Roles.{used_by}
use Rattle.xr_simulation.specs.Runners.{home}
use Rattle.xr_simulation.specs.ThreadViews.{running}
use Rattle.xr_simulation.specs.MatchStates.{none_rests}
use Rattle.xr_simulation.specs.Transfers.{Transfer, owing}
use Rattle.xr_simulation.specs.NextStep.{Errs, InTransfer, IsUnput}
use Rattle.xr_simulation.proofs.Channels.Deliveries.{offer_outside}
use Rattle.xr_simulation.proofs.Channels.EndRows.{AtEnd, Goal, boxes, checks_row, inside_there, put_there, side_end, taken_there}
use Rattle.xr_simulation.proofs.Channels.Inboxes.{line_parcels}
use Rattle.xr_simulation.proofs.Channels.InTransfers.{followed}
use Rattle.xr_simulation.proofs.Channels.Puts as puts
use Rattle.xr_simulation.proofs.Channels.Puts.{IsBehindPut, put_follows}
use Rattle.xr_simulation.proofs.Channels.Worlds.{awaiting_errs}
use Rattle.xr_simulation.proofs.Image.Lines.{line_known}
use Rattle.xr_simulation.proofs.ItemCode.Evaluations.{err_acts}
use Rattle.xr_simulation.proofs.OwnSteps.AnsweredTurns.{errs_answered}
use Rattle.xr_simulation.proofs.Relation.CoreSteps.{other_same}
use Rattle.xr_simulation.proofs.Relation.Lasting.{Follows, told_by}
use Rattle.xr_simulation.proofs.Relation.Moments.{BranchAt, Moment, ThreadAt, branch_of, moment_of, thread_of}
use Rattle.xr_simulation.proofs.Relation.Seats.{role_here}
use Rattle.xr_simulation.proofs.Settling.All.{follows_after}
use Rattle.xr_channels.specs.ChannelsOverLinks.{ChannelsOverLinks}
use Rattle.xr_channels.specs.ChannelSteps.{moved_to}
use Rattle.xr_channels.specs.Phases.{awaits_ack, between, offers, side_state}
use Rattle.xr_channels.proofs.All.Frames.{boxed_there, parcels, twice}
use Rattle.xr_channels.proofs.All.SideEnds as rows
use Rattle.xr_channels.proofs.All.SideEnds.{trap_puts}
use Rattle.xr_channels.proofs.Sides.Found.{is_taken}
use Rattle.xr_channels.proofs.Sides.Takes.{answered_on_time}
use Rattle.xr_channels.proofs.Sides.Updates.{at_spot}

module _ {moment : Moment none_rests} {thread_at : ThreadAt moment None} (branch_at : BranchAt thread_at)
    (on : branch_at.branch.mode ≡ runs) (channel : ℕ) (side : Side) (v : ℕ) (late : List Parcel)
    (its : thread_at.runner.transfer ≡ Some (owing channel side (awaits_ack (offers v)) late)) (j : ℕ)
    (few : 1 + j ≤ branch_at.stand.left)
    (h : InTransfer moment.setting thread_at.runner (owing channel side (awaits_ack (offers v)) late) branch_at.branch.items j
    (record { core = thread_at.state; world = moment.told.state; hand = None }))
    (u : IsUnput (owing channel side (awaits_ack (offers v)) late) h.pos branch_at.branch.items moment.told.state) where
  open moment use {setting as g, first as begun, image as is, roles as who, watched as w, told as x, standing as st}
  open thread_at use {core as c, thread as t, state as a, at_core as at_c, runner as r, runs as runs_r}
  open branch_at use {branch, known, stand}

  abbrev transfer : Transfer
  transfer = owing channel side (awaits_ack (offers v)) late

  abbrev at_end : AtEnd thread_at channel side (awaits_ack (offers v)) late
  at_end = inside_there thread_at channel side (awaits_ack (offers v)) late its

  late_is : st.wired.ghosts.late at_end.line (other_side side) ≡ offer u.value ∷ []
  late_is = at_end.late_is ∙ u.late

  -- an answer is there only once the offer is put
  no_answer : (ps : List Parcel) → parcels x.state.inboxes channel side ≡ taken ∷ ps → ⊥
  no_answer ps found =
      let none = answered_on_time (offers v) false (st.wired.ghosts.side_states at_end.line (other_side side)) _ _ ps
      (line_parcels g.program at_end.line channel at_end.is_line x.state.inboxes side ∙ found)
      (at_spot g.image.chans is.lines.wired w.machine.cores w.machine.links (boxes branch_at at_end) st.wired.ghosts st.wired.over.wires at_end.line
      (pair_of g.program channel) side (is.lines.line at_end.line channel at_end.is_line) (side_state (awaits_ack (offers v)) false)
      at_end.stands).talk in
      not_empty (sym none ∙ late_is)
    where
      not_empty : ◌≡◌ {A = List Parcel} [] (offer u.value ∷ []) → ⊥
      not_empty e = cc

  -- Another parcel stood first.
  module _ (p : Parcel) (ps : List Parcel) (found : parcels x.state.inboxes channel side ≡ p ∷ ps) (wrong : is_taken p ≡ false)
      (traps : slot (home g r) a r.thread ≡ Traps Mismatch) where
    -- the offer is put, while the machine stands still
    over_put : ChannelsOverLinks g.image.chans w.machine.cores w.machine.links (put_there branch_at at_end (offer u.value))
        (moved_to st.wired.ghosts at_end.line side (side_state (awaits_ack (offers v)) false) [])
    over_put =
        let q = trap_puts (side_end branch_at at_end) (offers v) false (offer u.value) [] p ps at_end.stands late_is
        (line_parcels g.program at_end.line channel at_end.is_line x.state.inboxes side ∙ found) wrong in
        subst (λ b. ChannelsOverLinks g.image.chans w.machine.cores w.machine.links (put_there branch_at at_end (offer u.value))
        (moved_to st.wired.ghosts at_end.line side (side_state (awaits_ack (offers v)) b) []))
        (offer_outside (awaits_ack (offers v)) false (offer u.value) [] q.0 u.value q.1 refl) q.2

    standing_still : IsBehindPut branch_at on transfer its j few h u w
    standing_still = record {
      stepped = record {
        was = at_c;
        is = at_c;
        others = λ d e ne at. other_same w w d e refl at;
        as_many = refl;
        sizes = refl;
      };
      clocks = st.clocks;
      trace = refl;
      lives = λ d n. refl;
      ends = st.wired.ends;
      over = over_put;
    }

    abbrev after_put : Follows g none_rests who w x w
    after_put = put_follows branch_at on transfer its j few h u w standing_still

    -- that moment
    abbrev told_put : Counted (of_kernel g.program)
    told_put = told_by g.program g.stimulus x after_put.piece after_put.world

    abbrev moment_put : Moment none_rests
    moment_put = moment_of g begun is after_put.who w told_put after_put.standing

    abbrev thread_put : ThreadAt moment_put None
    thread_put = thread_of moment_put c t a at_c (puts.s branch_at on transfer its j few h u) None
        (role_here who c t (used_by (puts.s branch_at on transfer its j few h u) None))

    abbrev branch_now : Branch
    branch_now = record branch { items = puts.items branch_at on transfer its j few h u }

    abbrev branch_put : BranchAt thread_put
    branch_put = branch_of thread_put branch_now (puts.own_branch branch_at on transfer its j few h u)
        (puts.own_stand branch_at on transfer its j few h u (w.lives c t) refl)

    -- its inbox is what it was
    found_put : parcels after_put.world.inboxes channel side ≡ p ∷ ps
    found_put =
        let lt = line_known g.program at_end.line channel at_end.is_line in
        let long = st.wired.long in
        ap (parcels after_put.world.inboxes channel) (sym (twice side))
        ∙ boxed_there x.state.inboxes channel (other_side side) _ (omega (arith, lt, long))
        ∙ ap (parcels x.state.inboxes channel) (twice side) ∙ found

    abbrev errs : Errs g (puts.s branch_at on transfer its j few h u) (record { core = a; world = after_put.world; hand = None })
    errs = record {
      kind = Mismatch;
      pos = u.output.pos;
      traps = traps;
      fault = h.steps.0.faults a h.here ∙ ap (λ q. Fault r.core q Mismatch) (sym u.place);
      holds = (puts.put_settled branch_at on transfer its j few h u).has.holds;
      ports = (puts.put_settled branch_at on transfer its j few h u).has.ports;
      no_hand = refl;
      acts = err_acts g (puts.s branch_at on transfer its j few h u) after_put.world branch_now (awaits channel u.output.pos) u.rest Mismatch
          u.output.pos (record { known = puts.own_branch branch_at on transfer its j few h u; running = on; items_are = refl }) stand.core
          (awaiting_errs g.program g.stimulus r.branch after_put.world branch_now channel side u.rest
          (puts.stands branch_at on transfer its j few h u) (puts.outside branch_at on transfer its j few h u) u.output.pos p ps found_put wrong);
      store = refl;
    }

    put_and_erred : Goal branch_at at_end
    put_and_erred =
        followed none_rests (λ d n ne. refl) (trapped a r.thread) (Some (Fault r.core u.output.pos Mismatch)) []
        (ap (stepped (home g r) w.machine r.core r.thread a) traps
        ∙ ap (λ f. Some (record w.machine { cores = slice_set w.machine.cores r.core (trapped a r.thread); trace = w.machine.trace ++ f ∷ [] }))
        errs.fault)
        (follows_after g begun is _ none_rests who after_put.who w x after_put.piece after_put.world after_put.acted w after_put.named
        (errs_answered branch_put (tt, refl) errs))

  pub late_answer_followed : Goal branch_at at_end
  late_answer_followed =
      checks_row branch_at at_end h.pc h.regs h.here h.pos 3 taken is_taken (taken_there branch_at at_end) between h.steps.0
      (rows.chkct_ack (side_end branch_at at_end) r.thread (running r.tie h.pc h.regs) (offers v) false at_end.stands)
      (λ ps found. absurd (no_answer ps found)) put_and_erred
