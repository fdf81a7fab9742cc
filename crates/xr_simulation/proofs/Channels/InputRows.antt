-- IN of an input: the branch takes the offer that stands first and answers it, and the thread is inside a transfer; or another parcel stood first,
-- and the branch errs.
use Rattle.std.proofs.Common.{◌≡◌, ℕ, ◌+◌, ◌<◌, ◌≤◌, ◌++◌, List, [], ◌∷◌, length, Option, Some, None, refl, sym, ap, ◌∙◌, subst, arith}
use Rattle.std.specs.Prelude.{false}
use Rattle.xs_instr.specs.declared.state.ChanEnd.{ChanEnd}
use Rattle.xs_instr.specs.declared.instr.Reg.TheVariants.{R0}
use Rattle.xs_instr.specs.declared.state.Regs.{Regs}
use Rattle.xs_instr.specs.declared.state.Sent.{Sent}
use Rattle.xs_instr.specs.declared.trace.Record.TheVariants.{Com}
use Rattle.xs_instr.specs.declared.trace.Trap.TheVariants.{Mismatch}
use Rattle.xs_instr.specs.Did.{Made, Traps}
use Rattle.xs_instr.specs.Registers.{reg_set}
use Rattle.xs_instr.specs.Slot.{slot}
use Rattle.xc_kernel.specs.Plain as kernel
use Rattle.xc_meaning.specs.States.Branches.{runs, side_of}
use Rattle.xc_meaning.specs.States.Channels.{Parcel, offer, other_side, taken}
use Rattle.xc_meaning.specs.States.Items.{Item, does, storing}
use Rattle.xc_meaning.specs.States.Worlds.{World}
use Rattle.xr_simulation.specs.Runners.{home, shrunk}
use Rattle.xr_simulation.specs.ThreadViews.{running}
use Rattle.xr_simulation.specs.MatchStates.{ProgressWith, none_rests}
use Rattle.xr_simulation.specs.Transfers.{AwaitsNothing, StopsIn, Transfer, in_phase}
use Rattle.xr_simulation.specs.NextStep.{Communicates, Errs, InTransfer, cost, on_time, takes_in}
use Rattle.xr_simulation.specs.Wired.{boxes_in}
use Rattle.xr_simulation.proofs.Channels.Worlds.{input_errs, received, received_boxes, takes_offer}
use Rattle.xr_simulation.proofs.Channels.EndRows.{AtEnd, Goal, acts_row, answered_there, boxes_answered, side_end, stays_in, word_row}
use Rattle.xr_simulation.proofs.Channels.EndSteps.{gone_on}
use Rattle.xr_simulation.proofs.ItemCode.Evaluations.{err_acts}
use Rattle.xr_simulation.proofs.ItemCode.Items.{storing_fits}
use Rattle.xr_simulation.proofs.Relation.Moments.{BranchAt, Moment, ThreadAt}
use Rattle.xr_simulation.proofs.Channels.OwnTransfers as own
use Rattle.xr_simulation.proofs.Channels.OwnTransfers.{ActsAtEnd, behind, has_behind, left, less}
use Rattle.xr_simulation.proofs.Channels.PieceStarts as start
use Rattle.xr_simulation.proofs.Channels.Protocols.{word_come}
use Rattle.xr_simulation.proofs.RelyGuarantee.Footprints.{transfer_shrinks}
use Rattle.xr_simulation.proofs.Channels.TransferErrs.{errs_followed}
use Rattle.xr_simulation.proofs.RelyGuarantee.Phases.{inside_as}
use Rattle.xr_simulation.proofs.RelyGuarantee.Events.{nothing_unwatched}
use Rattle.xr_channels.specs.Phases.{between, checks_end, side_state}
use Rattle.xr_channels.proofs.All.Frames.{boxed, length_box, parcels}
use Rattle.xr_channels.proofs.All.SideEnds as rows
use Rattle.xr_channels.specs.SideRows.{Next}
use Rattle.xr_channels.proofs.Sides.Found.{is_offer}

-- a word that has come in is to be stored, where there is a place for it
storing_awaits_nothing : (target : Option kernel.Place) (v : ℕ) (rest : List Item) → AwaitsNothing rest → AwaitsNothing (storing target v rest)
storing_awaits_nothing None v rest h = h
storing_awaits_nothing (Some place) v rest h = tt

module _ {moment : Moment none_rests} {thread_at : ThreadAt moment None} (branch_at : BranchAt thread_at)
    (on : branch_at.branch.mode ≡ runs) (none : thread_at.runner.transfer ≡ None) (j : ℕ) (few : j ≤ branch_at.stand.left)
    (i : kernel.Input)
    (h : Communicates moment.setting thread_at.runner (takes_in i) j
    (record { core = thread_at.state; world = moment.told.state; hand = None })) where
  open moment use {setting as g, first, image as is, roles as who, watched as w, told as x, standing as st}
  open thread_at use {core as c, thread as t, state as a, at_core as at_c, runner as r, runs as runs_r}
  open branch_at use {branch, known, stand}

  abbrev at_end : AtEnd thread_at h.on.channel h.on.side between []
  at_end = start.at_end branch_at on none (takes_in i) j h

  stands : side_of branch h.on.channel ≡ Some h.on.side
  stands = start.stands branch_at on none (takes_in i) j h

  outside : branch.inside ≡ []
  outside = start.outside branch_at on none (takes_in i) j h

  few_boxes : h.on.channel < length x.state.inboxes
  few_boxes = let lt = (start.is_channel branch_at on none (takes_in i) j h).known in let long = st.wired.long in omega (arith, lt, long)

  -- A word has come in, with the offer that stood first.
  module _ (v : ℕ) (ps : List Parcel) (found : parcels x.state.inboxes h.on.channel h.on.side ≡ offer v ∷ ps) where
    -- the branch takes the offer and answers it, and has the word to store
    abbrev items : List Item
    items = storing i.target v h.rest

    abbrev world : World
    world = received g.program g.stimulus r.branch x.state branch h.on.channel h.on.side h.rest stands outside i.target v

    world_boxes : world.inboxes ≡ boxed (boxed x.state.inboxes h.on.channel h.on.side ps) h.on.channel (other_side h.on.side)
        (parcels x.state.inboxes h.on.channel (other_side h.on.side) ++ taken ∷ [])
    world_boxes = received_boxes g.program g.stimulus r.branch x.state branch h.on.channel h.on.side h.rest stands outside i.target v ps
        few_boxes found

    as_many : length world.inboxes ≡ length x.state.inboxes
    as_many = ap length world_boxes ∙ length_box (boxed x.state.inboxes h.on.channel h.on.side ps) h.on.channel _ ∙ length_box
        x.state.inboxes h.on.channel _

    abbrev transfer : Transfer
    transfer = in_phase h.on.channel h.on.side checks_end

    -- nothing is waited for behind it
    nothing_awaited_behind : AwaitsNothing items
    nothing_awaited_behind = storing_awaits_nothing i.target v h.rest h.ready

    abbrev regs' : Regs
    regs' = reg_set h.regs R0 v

    abbrev does_input : ActsAtEnd branch_at
    does_input = record {
      on = on;
      pc = h.pc;
      before = h.regs;
      after = regs';
      here = h.here;
      items = items;
      made = Some (Com r.core v);
      world = world;
      acted = takes_offer g.program g.stimulus r.branch x.state branch h.on.channel h.on.side h.rest stands outside i v ps h.on.is_channel
          found (start.to_do branch_at on none (takes_in i) j h);
      is_next = record { clocks = refl; branches = refl; store = λ k e. refl; trace = ap (λ n. x.state.trace ++ Com n v ∷ []) stand.core };
      store = refl;
      has = start.has branch_at on none (takes_in i) j h;
      unwatched = nothing_unwatched items nothing_awaited_behind;
      transfer = Some transfer;
    }

    module _ (es : List ChanEnd) where
      -- the thread is inside the transfer
      inside : InTransfer g r transfer items j (behind does_input es)
      inside = record {
        pos = i.pos;
        left = on_time refl nothing_awaited_behind;
        stands_in = h.on.stands_in;
        no_hand = refl;
        pc = h.pc + 1;
        regs = regs';
        here = gone_on g r a h.pc h.regs regs' h.here es;
        steps = word_come g r h.on.channel h.on.side i.pos i.target h.rest j h.pc h.regs v h.steps;
        fits = storing_fits g r i.target v h.rest h.fits.0.0.target (let counted = h.fits.0.1 in omega (arith, counted)) h.fits.1;
        has = has_behind does_input es;
      }

      stands_inside : ProgressWith g (own.s does_input) false (Some transfer) items (2 + j + cost g r) (behind does_input es)
      stands_inside = (
        j,
        omega arith,
        inside_as g (shrunk r items) (Some transfer) transfer items j (behind does_input es) refl
            (transfer_shrinks g r items (less does_input es) transfer j (behind does_input es) inside),
      )

    made_so : (es : List ChanEnd) (sent : List Sent) → slot (home g r) a r.thread ≡ Made (left does_input es) (Some (Com r.core v)) sent →
        Next (side_end branch_at at_end) (left does_input es) sent (answered_there branch_at at_end ps)
        (side_state checks_end false) [] → Goal branch_at at_end
    made_so =
        acts_row branch_at at_end does_input checks_end [] (stays_in refl) none_rests (λ d u ne. refl) j (2 + j + cost g r) few (omega arith)
        (answered_there branch_at at_end ps) (ap (boxes_in g.program) world_boxes ∙ boxes_answered branch_at at_end ps) as_many
        stands_inside

  -- another parcel stood first
  errs : (p : Parcel) (ps : List Parcel) → parcels x.state.inboxes h.on.channel h.on.side ≡ p ∷ ps → is_offer p ≡ false →
      slot (home g r) a r.thread ≡ Traps Mismatch →
      Errs g r (record { core = a; world = x.state; hand = None })
  errs p ps found wrong traps = record {
    kind = Mismatch;
    pos = i.pos;
    traps = traps;
    fault = h.steps.0.faults a h.here;
    holds = h.has.holds;
    ports = h.has.ports;
    no_hand = refl;
    acts = err_acts g r x.state branch (does (kernel.input i)) h.rest Mismatch i.pos
        (start.to_do branch_at on none (takes_in i) j h) stand.core
        (input_errs g.program g.stimulus r.branch x.state branch h.on.channel h.on.side h.rest stands outside i p ps h.on.is_channel
        found wrong);
    store = refl;
  }

  pub input_followed : Goal branch_at at_end
  input_followed =
      word_row branch_at at_end h.pc h.regs h.here i.pos R0 offer is_offer (answered_there branch_at at_end) checks_end [] h.steps.0
      (rows.in_plain (side_end branch_at at_end) r.thread (running r.tie h.pc h.regs) R0 at_end.stands)
      made_so (λ p ps found wrong traps. errs_followed branch_at (subst StopsIn (sym none) tt) (errs p ps found wrong traps))
