-- OUT of an output: the branch offers its word, and the thread is inside a transfer.
use Rattle.std.proofs.Common.{◌≡◌, ◌⊎◌, ℕ, ◌+◌, ◌≤◌, inl, inr, List, [], ◌∷◌, Some, None, refl, sym, ap, subst, arith}
use Rattle.std.specs.Prelude.{false}
use Rattle.xs_instr.specs.declared.state.ChanEnd.{ChanEnd}
use Rattle.xs_instr.specs.declared.state.Sent.{Sent}
use Rattle.xs_instr.specs.Did.{Made}
use Rattle.xs_instr.specs.Ends.{Gone, word_tokens}
use Rattle.xs_instr.specs.Slot.{slot}
use Rattle.xc_kernel.specs.Plain as kernel
use Rattle.xc_meaning.specs.States.Branches.{runs, side_of}
use Rattle.xc_meaning.specs.States.Channels.{offer}
use Rattle.xc_meaning.specs.States.Items.{Item, awaits, does}
use Rattle.xr_simulation.specs.Fits.{ItemsFit}
use Rattle.xr_simulation.specs.Runners.{home, shrunk}
use Rattle.xr_simulation.specs.ThreadViews.{ThreadView, running}
use Rattle.xr_simulation.specs.MatchStates.{ProgressWith, none_rests}
use Rattle.xr_simulation.specs.Transfers.{Transfer, acts_left, all_but_first, in_phase, items_behind, owing, spared}
use Rattle.xr_simulation.specs.NextStep.{Communicates, Has, InTransfer, IsBehind, TakesSteps, cost, on_time, puts_out, unput}
use Rattle.xr_simulation.proofs.Channels.Worlds.{offered, offers_word}
use Rattle.xr_simulation.proofs.Channels.EndRows.{AtEnd, Goal, acts_row, boxes, boxes_put, goes_row, put_there, sends_row, side_end, stays_in}
use Rattle.xr_simulation.proofs.Channels.EndSteps as step
use Rattle.xr_simulation.proofs.Channels.EndSteps.{gone_on}
use Rattle.xr_simulation.proofs.OwnSteps.Answers as answers
use Rattle.xr_simulation.proofs.Relation.Moments.{BranchAt, Moment, ThreadAt}
use Rattle.xr_simulation.proofs.Channels.OwnTransfers as own
use Rattle.xr_simulation.proofs.Channels.OwnTransfers.{ActsAtEnd, behind, has_behind, less}
use Rattle.xr_simulation.proofs.Channels.PieceStarts as start
use Rattle.xr_simulation.proofs.Channels.Protocols.{offer_sent}
use Rattle.xr_simulation.proofs.RelyGuarantee.Footprints.{transfer_shrinks}
use Rattle.xr_simulation.proofs.RelyGuarantee.Phases.{fits_as, has_as, inside_as, steps_as}
use Rattle.xr_channels.specs.Phases.{between, sends_end, side_state}
use Rattle.xr_channels.specs.SideRows.{Begins, Next, SendRow, is_late, is_put, sends_makes, sends_pauses, sent_gone}
use Rattle.xr_channels.proofs.All.Frames.{length_box}
use Rattle.xr_channels.proofs.All.SideEnds as rows

module _ {moment : Moment none_rests} {thread_at : ThreadAt moment None} (branch_at : BranchAt thread_at)
    (on : branch_at.branch.mode ≡ runs) (none : thread_at.runner.transfer ≡ None) (j : ℕ) (few : j ≤ branch_at.stand.left)
    (o : kernel.Output) (v : ℕ)
    (h : Communicates moment.setting thread_at.runner (puts_out o v) j
    (record { core = thread_at.state; world = moment.told.state; hand = None })) where
  open moment use {setting as g, image as is, roles as who, watched as w, told as x, standing as st}
  open thread_at use {core as c, thread as t, state as a, at_core as at_c, runner as r, runs as runs_r}
  open branch_at use {branch, known, stand}

  abbrev at_end : AtEnd thread_at h.on.channel h.on.side between []
  at_end = start.at_end branch_at on none (puts_out o v) j h

  stands : side_of branch h.on.channel ≡ Some h.on.side
  stands = start.stands branch_at on none (puts_out o v) j h

  outside : branch.inside ≡ []
  outside = start.outside branch_at on none (puts_out o v) j h

  -- the branch offers its word, and waits
  abbrev items : List Item
  items = awaits h.on.channel o.pos ∷ h.rest

  abbrev transfer : Transfer
  transfer = in_phase h.on.channel h.on.side (sends_end v)

  abbrev does_offer : ActsAtEnd branch_at
  does_offer = record {
    on = on;
    pc = h.pc;
    before = h.regs;
    after = h.regs;
    here = h.here;
    items = items;
    made = None;
    world = offered g.program g.stimulus r.branch x.state branch h.on.channel h.on.side h.rest stands outside o.pos v;
    acted = offers_word g.program g.stimulus r.branch x.state branch h.on.channel h.on.side h.rest stands outside o v h.on.is_channel
        h.ready (start.to_do branch_at on none (puts_out o v) j h);
    is_next = record { clocks = refl; branches = refl; store = λ k e. refl; trace = refl };
    store = refl;
    has = start.has branch_at on none (puts_out o v) j h;
    unwatched = refl;
    transfer = Some transfer;
  }

  module _ (es : List ChanEnd) where
    -- the thread is inside the transfer
    inside : InTransfer g r transfer items j (behind does_offer es)
    inside = record {
      pos = o.pos;
      left = on_time refl (h.rest, refl);
      stands_in = h.on.stands_in;
      no_hand = refl;
      pc = h.pc + 1;
      regs = h.regs;
      here = gone_on g r a h.pc h.regs h.regs h.here es;
      steps = offer_sent g r h.on.channel h.on.side o.pos (IsBehind g r h.rest j) h.pc h.regs v h.steps;
      fits = (start.is_channel branch_at on none (puts_out o v) j h, h.fits.1);
      has = has_behind does_offer es;
    }

    stands_inside : ProgressWith g (own.s does_offer) false (Some transfer) items (2 + j + cost g r) (behind does_offer es)
    stands_inside = (
      j,
      omega arith,
      inside_as g (shrunk r items) (Some transfer) transfer items j (behind does_offer es) refl
          (transfer_shrinks g r items (less does_offer es) transfer j (behind does_offer es) inside),
    )

  -- To an end on another core it is late: the branch has the output to do still.
  abbrev late : Transfer
  late = owing h.on.channel h.on.side (sends_end v) (offer v ∷ [])

  module _ (es : List ChanEnd) where
    abbrev sent_only : ThreadView
    sent_only = record { core = step.left g r a h.pc h.regs h.regs h.here es; world = x.state; hand = None }

    has_still : Has g r branch.items sent_only
    has_still =
        let k = start.has branch_at on none (puts_out o v) j h in
        record {
          branch = k.branch;
          runs = k.runs;
          core = k.core;
          holds = answers.store_as g r c a x.state (record { core = a; world = x.state; hand = None }) sent_only refl refl k.holds;
          ports = answers.ports_as g r c a x.state (record { core = a; world = x.state; hand = None }) sent_only (λ p listed its. refl) k.ports;
        }

    begins_with : branch.items ≡ does (kernel.output o) ∷ h.rest
    begins_with = start.begins_with branch_at on none (puts_out o v) j h

    late_inside : InTransfer g (record r { transfer = Some late }) late branch.items j sent_only
    late_inside = record {
      pos = o.pos;
      left = unput (record {
        output = o;
        value = v;
        rest = h.rest;
        late = refl;
        phase = inl refl;
        items_are = begins_with;
        on_channel = h.on.is_channel;
        place = refl;
        ready = h.ready;
      });
      stands_in = h.on.stands_in;
      no_hand = refl;
      pc = h.pc + 1;
      regs = h.regs;
      here = gone_on g r a h.pc h.regs h.regs h.here es;
      steps = steps_as g r (Some late) h.on.channel h.on.side o.pos (acts_left (sends_end v)) (items_behind (sends_end v) branch.items) j
          (h.pc + 1) h.regs
          (subst (λ l. TakesSteps g r h.on.channel h.on.side o.pos (acts_left (sends_end v)) (IsBehind g r (all_but_first l) j) (h.pc + 1) h.regs)
          (sym begins_with)
          (offer_sent g r h.on.channel h.on.side o.pos (IsBehind g r h.rest j) h.pc h.regs v h.steps));
      fits = fits_as g r (Some late) branch.items stand.footprint (subst (ItemsFit g r) (sym begins_with) h.fits);
      has = has_as g r (Some late) branch.items sent_only has_still;
    }

    stands_late : ProgressWith g (record r { transfer = Some late }) false (Some late) branch.items (2 + j) sent_only
    stands_late = (j, omega arith, late_inside)

  -- the row, by whether the offer is put at once
  abbrev PutNow : List ChanEnd → List Sent → Type 0
  PutNow es sent = Next (side_end branch_at at_end) (own.left does_offer es) sent (put_there branch_at at_end (offer v))
      (side_state (sends_end v) false) []

  abbrev Later : List ChanEnd → List Sent → Type 0
  Later es sent = Next (side_end branch_at at_end) (own.left does_offer es) sent (boxes branch_at at_end)
      (side_state (sends_end v) false) (offer v ∷ [])

  abbrev Then : List ChanEnd → List Sent → Type 0
  Then es sent = PutNow es sent ⊎ Later es sent

  abbrev Row : Type 0 → Type 0
  Row = SendRow (side_end branch_at at_end) r.thread (running r.tie h.pc h.regs) (word_tokens v)

  abbrev gone : Gone
  gone = sent_gone (side_end branch_at at_end) r.thread (running r.tie h.pc h.regs) (word_tokens v)

  by_distance : Row (Begins (side_end branch_at at_end) r.thread (running r.tie h.pc h.regs) (word_tokens v) (offer v)
      (side_state (sends_end v) false) (side_state (sends_end v) false) (offer v ∷ [])) → Row (Then gone.ends gone.sent)
  by_distance (sends_pauses did few) = sends_pauses did few
  by_distance (sends_makes did (is_put near next)) = sends_makes did (inl next)
  by_distance (sends_makes did (is_late far next)) = sends_makes did (inr next)

  followed_then : (es : List ChanEnd) (sent : List Sent) → slot (home g r) a r.thread ≡ Made (own.left does_offer es) None sent → Then es sent →
      Goal branch_at at_end
  followed_then es sent is_made (inl next) =
      acts_row branch_at at_end does_offer (sends_end v) [] (stays_in refl) none_rests (λ d u ne. refl) j (2 + j + cost g r) few (omega arith)
      (put_there branch_at at_end (offer v)) (boxes_put branch_at at_end (offer v)) (length_box x.state.inboxes h.on.channel _)
      stands_inside es sent is_made next
  followed_then es sent is_made (inr next) =
      goes_row branch_at at_end h.pc h.regs h.here on (Some late) (sends_end v) (offer v ∷ []) (stays_in refl) none_rests (λ d u ne. refl)
      (2 + j) (let three = ap spared none in omega (arith, few, three)) stands_late es sent is_made next

  pub offer_followed : Goal branch_at at_end
  offer_followed =
      sends_row branch_at at_end h.pc h.regs h.here o.pos (word_tokens v) Then h.steps.0
      (by_distance (rows.out_plain (side_end branch_at at_end) r.thread (running r.tie h.pc h.regs) v at_end.stands)) followed_then
