-- CHKCT ACK of an output: the answer is taken and the transfer is over; or another parcel stood first, and the branch errs.
use Rattle.std.proofs.Common.{◌≡◌, ℕ, ◌+◌, ◌≤◌, inr, List, [], ◌∷◌, length, Some, None, refl, sym, ap, ◌∙◌, subst, arith}
use Rattle.std.specs.Prelude.{false, nat_eq, slice_index_or}
use Rattle.xs_instr.specs.declared.state.ChanEnd.{ChanEnd}
use Rattle.xs_instr.specs.declared.state.Sent.{Sent}
use Rattle.xs_instr.specs.declared.trace.Trap.TheVariants.{Mismatch}
use Rattle.xs_instr.specs.Did.{Made, Traps}
use Rattle.xs_instr.specs.Slot.{slot}
use Rattle.xc_meaning.specs.States.Branches.{runs, side_of}
use Rattle.xc_meaning.specs.States.Channels.{Parcel, Side, taken}
use Rattle.xc_meaning.specs.States.Items.{Item, awaits}
use Rattle.xc_meaning.specs.States.Worlds.{World}
use Rattle.xr_simulation.specs.Fits.{ItemsFit}
use Rattle.xr_simulation.specs.Runners.{home, shrunk}
use Rattle.xr_simulation.specs.ThreadViews.{running}
use Rattle.xr_simulation.specs.MatchStates.{IfTrue, IsAtRest, ProgressWith, none_rests}
use Rattle.xr_simulation.specs.Transfers.{GoesWith, StopsIn, all_but_first, in_phase}
use Rattle.xr_simulation.specs.NextStep.{Errs, InTransfer, IsBehind, Runs, cost}
use Rattle.xr_simulation.specs.Wired.{boxes_in}
use Rattle.xr_simulation.proofs.Channels.Worlds.{answered, answered_boxes, awaiting_errs, takes_answer}
use Rattle.xr_simulation.proofs.Channels.EndRows.{AtEnd, Goal, acts_row, boxes_taken, checks_row, goes_out, inside_there, side_end, taken_there}
use Rattle.xr_simulation.proofs.Channels.EndSteps.{gone_on}
use Rattle.xr_simulation.proofs.ItemCode.Evaluations.{err_acts}
use Rattle.xr_simulation.proofs.Relation.Moments.{BranchAt, Moment, ThreadAt}
use Rattle.xr_simulation.proofs.OwnSteps.Events.{rests_alone, rests_there}
use Rattle.xr_simulation.proofs.Channels.OwnTransfers as own
use Rattle.xr_simulation.proofs.Channels.OwnTransfers.{ActsAtEnd, behind, has_behind, left, less}
use Rattle.xr_simulation.proofs.RelyGuarantee.Footprints.{rest_shrinks}
use Rattle.xr_simulation.proofs.Channels.TransferErrs.{errs_followed}
use Rattle.xr_simulation.proofs.Channels.TransferRows.{alone_elsewhere}
use Rattle.xr_simulation.proofs.RelyGuarantee.Phases.{rest_as}
use Rattle.xr_simulation.proofs.RelyGuarantee.Events.{here_at}
use Rattle.xr_channels.specs.Phases.{awaits_ack, between, offers, side_state}
use Rattle.xr_channels.proofs.All.Frames.{boxed, length_box, parcels}
use Rattle.xr_channels.proofs.All.SideEnds as rows
use Rattle.xr_channels.specs.SideRows.{Next}
use Rattle.xr_channels.proofs.Sides.Found.{is_taken}

module _ {moment : Moment none_rests} {thread_at : ThreadAt moment None} (branch_at : BranchAt thread_at)
    (on : branch_at.branch.mode ≡ runs) (channel : ℕ) (side : Side) (v : ℕ)
    (its : thread_at.runner.transfer ≡ Some (in_phase channel side (awaits_ack (offers v)))) (j : ℕ)
    (few : 1 + j + cost moment.setting thread_at.runner ≤ branch_at.stand.left)
    (h : InTransfer moment.setting thread_at.runner (in_phase channel side (awaits_ack (offers v))) branch_at.branch.items j
    (record { core = thread_at.state; world = moment.told.state; hand = None }))
    (goes : GoesWith (awaits_ack (offers v)) channel h.pos branch_at.branch.items) where
  open moment use {setting as g, first, image as is, roles as who, watched as w, told as x, standing as st}
  open thread_at use {core as c, thread as t, state as a, at_core as at_c, runner as r, runs as runs_r}
  open branch_at use {branch, known, stand}

  abbrev at_end : AtEnd thread_at channel side (awaits_ack (offers v)) []
  at_end = inside_there thread_at channel side (awaits_ack (offers v)) [] its

  -- the branch, which waits for the answer
  abbrev rest : List Item
  rest = goes.0

  waiting : Runs x.state r.branch branch (awaits channel h.pos ∷ rest)
  waiting = record { known = known; running = on; items_are = goes.1 }

  stands : side_of branch channel ≡ Some side
  stands = ap (λ l. slice_index_or l channel None) stand.sides ∙ h.stands_in

  outside : branch.inside ≡ []
  outside = st.plain.outside r.branch branch known

  code_behind : IsBehind g r rest j (h.pc + 1) h.regs
  code_behind = subst (λ items. IsBehind g r (all_but_first items) j (h.pc + 1) h.regs) goes.1 h.steps.1

  -- the answer stood first
  module _ (ps : List Parcel) (found : parcels x.state.inboxes channel side ≡ taken ∷ ps) where
    abbrev world : World
    world = answered g.program g.stimulus r.branch x.state branch channel side rest stands outside

    world_boxes : world.inboxes ≡ boxed x.state.inboxes channel side ps
    world_boxes = answered_boxes g.program g.stimulus r.branch x.state branch channel side rest stands outside ps found

    abbrev does_answer : ActsAtEnd branch_at
    does_answer = record {
      on = on;
      pc = h.pc;
      before = h.regs;
      after = h.regs;
      here = h.here;
      items = rest;
      made = None;
      world = world;
      acted = takes_answer g.program g.stimulus r.branch x.state branch channel side rest stands outside h.pos ps found waiting;
      is_next = record { clocks = refl; branches = refl; store = λ k e. refl; trace = refl };
      store = refl;
      has = h.has;
      unwatched = code_behind.1;
      transfer = None;
    }

    module _ (es : List ChanEnd) where
      -- the thread is at the code of what is left
      at_rest : ProgressWith g (own.s does_answer) (rests_alone c t c t) None rest (j + cost g r) (behind does_answer es)
      at_rest =
          inr (inr (subst (λ b. IfTrue g (own.s does_answer) b
          (IsAtRest g (own.s does_answer) rest (j + cost g r) (behind does_answer es))) (sym (rests_there c t)) (
            j,
            omega arith,
            refl,
            rest_as g (shrunk r rest) None rest j (behind does_answer es) refl
                (rest_shrinks g r rest (less does_answer es) j (behind does_answer es) (record {
                  pc = h.pc + 1;
                  regs = h.regs;
                  here = here_at rest does_answer.unwatched (gone_on g r a h.pc h.regs h.regs h.here es);
                  bases = code_behind.0;
                  stands = code_behind.2 (left does_answer es);
                  fits = (subst (ItemsFit g r) goes.1 h.fits).1;
                  has = has_behind does_answer es;
                })),
          )))

    made_so : (es : List ChanEnd) (sent : List Sent) → slot (home g r) a r.thread ≡ Made (left does_answer es) None sent →
        Next (side_end branch_at at_end) (left does_answer es) sent (taken_there branch_at at_end ps)
        (side_state between false) [] → Goal branch_at at_end
    made_so =
        acts_row branch_at at_end does_answer between [] (goes_out refl refl refl) (rests_alone c t) (λ d u ne. alone_elsewhere c (nat_eq u t) d ne)
        j (j + cost g r) (omega (arith, few)) (omega arith) (taken_there branch_at at_end ps)
        (ap (boxes_in g.program) world_boxes ∙ boxes_taken branch_at at_end ps)
        (ap length world_boxes ∙ length_box x.state.inboxes channel _) at_rest

  -- another parcel stood first
  errs : (p : Parcel) (ps : List Parcel) → parcels x.state.inboxes channel side ≡ p ∷ ps → is_taken p ≡ false →
      slot (home g r) a r.thread ≡ Traps Mismatch →
      Errs g r (record { core = a; world = x.state; hand = None })
  errs p ps found wrong traps = record {
    kind = Mismatch;
    pos = h.pos;
    traps = traps;
    fault = h.steps.0.faults a h.here;
    holds = h.has.holds;
    ports = h.has.ports;
    no_hand = refl;
    acts = err_acts g r x.state branch (awaits channel h.pos) rest Mismatch h.pos waiting stand.core
        (awaiting_errs g.program g.stimulus r.branch x.state branch channel side rest stands outside h.pos p ps found wrong);
    store = refl;
  }

  pub answer_followed : Goal branch_at at_end
  answer_followed =
      checks_row branch_at at_end h.pc h.regs h.here h.pos 3 taken is_taken (taken_there branch_at at_end) between h.steps.0
      (rows.chkct_ack (side_end branch_at at_end) r.thread (running r.tie h.pc h.regs) (offers v) false at_end.stands)
      made_so (λ p ps found wrong traps. errs_followed branch_at (subst StopsIn (sym its) (tt, refl)) (errs p ps found wrong traps))
