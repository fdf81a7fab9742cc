-- Where the machine is quiet, a branch that is at a transfer over a channel, or inside one, can do nothing: what it waits for isn't there.
use Rattle.std.proofs.Common.{IsTrue, ◌≡◌, ◌⊎◌, ℕ, ◌<◌, List, [], ◌∷◌, length, Option, Some, None, refl, sym, ap, ◌∙◌, subst, inl, inr, ⊎_elim}
use Rattle.std.specs.Prelude.{false, nat_le, slice_get, slice_index_or}
use Rattle.std.proofs.lemmas.Option.{same_Some}
use Rattle.xw_words.specs.declared.pos.Pos.{Pos}
use Rattle.xs_instr.specs.declared.image.Pair.{Pair}
use Rattle.xs_instr.specs.declared.instr.Reg.TheVariants.{R0}
use Rattle.xs_instr.specs.declared.state.ChanEnd.{ChanEnd}
use Rattle.xs_instr.specs.Ends.{NotYet, control_token, take_word, word_tokens}
use Rattle.xs_instr.specs.Machine.{and_then}
use Rattle.xc_kernel.specs.declared.statement.KRes.TheVariants.{Chan}
use Rattle.xc_kernel.specs.Plain as kernel
use Rattle.xc_kernel.specs.Things.{channel as the_channel}
use Rattle.xc_meaning.specs.Runs.{does_first, does_item, selects, selects_by, step_of}
use Rattle.xc_meaning.specs.Settings.Channels.{is_among}
use Rattle.xc_meaning.specs.Settings.Select.{takes, takes_default}
use Rattle.xc_meaning.specs.Settings.Setting as source
use Rattle.xc_meaning.specs.Settings.Transfers.{inputs_from}
use Rattle.xc_meaning.specs.States.Branches.{Branch, side_of}
use Rattle.xc_meaning.specs.States.Channels.{Inboxes, Side, other_side}
use Rattle.xc_meaning.specs.States.Items.{Item, awaits, does}
use Rattle.xc_meaning.specs.States.Worlds.{World}
use Rattle.xc_meaning.specs.Uses.{by_items}
use Rattle.xl_chan.specs.Protocols as protocol
use Rattle.xl_chan.specs.Protocols.{Acts, sends}
use Rattle.xl_image.specs.Images.{pair_of}
use Rattle.xl_par.specs.Acquired.{Acquired}
use Rattle.xl_plan.specs.Layout.{core_of}
use Rattle.xr_match.specs.Implements.{IsQuietMachine}
use Rattle.xr_simulation.specs.Runners.{IsChannel, Runner, Setting, end_place, home}
use Rattle.xr_simulation.specs.ThreadViews.{ThreadView, running}
use Rattle.xr_simulation.specs.MatchStates.{none_rests}
use Rattle.xr_simulation.specs.Transfers.{GoesWith, IsAwaiting, Transfer, acts_left, items_behind}
use Rattle.xr_simulation.specs.NextStep.{CannotAct, Communicates, InTransfer, IsBehind, Runs, TakesSteps, puts_out, takes_in}
use Rattle.xr_simulation.specs.Wired.{IsLine, boxes_in}
use Rattle.xr_simulation.proofs.Channels.Inboxes.{line_parcels}
use Rattle.xr_simulation.proofs.Channels.Ends.{end, quiet_end}
use Rattle.xr_simulation.proofs.ItemCode.Evaluations.{item_acts}
use Rattle.xr_simulation.proofs.Relation.Moments.{Moment, ThreadAt}
use Rattle.xr_simulation.proofs.Relation.CoreSteps.{works_at}
use Rattle.xr_simulation.proofs.Channels.PieceStarts.{piece_channel, piece_uses}
use Rattle.xr_simulation.proofs.Quiet.Sides.{IsStuck, awaiting_sent, checks_wait, each_stuck, goes_on_time, nothing_moves, sends_wait, word_waits}
use Rattle.xr_simulation.proofs.Channels.TransferBegins as begins
use Rattle.xr_simulation.proofs.Channels.TransferBegins.{core_there, line_there, spot_there}
use Rattle.xr_simulation.proofs.Channels.Wiring.{late_inside, wired_inside}
use Rattle.xr_channels.specs.Phases.{Phase, awaits_ack, between, checks_end, closes, offers, opens, sends_ack, sends_end, side_state, streams, was_closed}
use Rattle.xr_channels.specs.Channels.{Ghosts}
use Rattle.xr_channels.proofs.All.Frames.{parcels}
use Rattle.xr_channels.proofs.All.OverLinks.{quiet_on_time}
use Rattle.xr_channels.proofs.All.QuietPauses.{Goes, QuietEnd, chkct_ack_paused, chkct_end_paused, in_paused}
use Rattle.xr_channels.proofs.All.QuietPlain.{has_credit, has_credits, nothing_came, nothing_owed}
use Rattle.xr_channels.proofs.Sides.Plain.{IsPlain}
use Rattle.xr_channels.proofs.Sides.Sources.{answer_waits, input_waits}

-- A branch whose first item isn't a select can do nothing where that item can't be done.
module _ (g : Setting) (r : Runner) (x : World) (branch : Branch) (item : Item) (rest : List Item) (h : Runs x r.branch branch (item ∷ rest)) where
  -- by the step of the item
  cannot_by : ((s : source.Setting) (n : ℕ) → takes s n item ≡ None) → ((s : source.Setting) → takes_default s item ≡ None) → does_item (step_of g.program g.stimulus x r.branch branch rest) item ≡ None → CannotAct g r x
  cannot_by no_take no_default no_go = record {
    goes = item_acts g.program g.stimulus r.branch x branch item rest h ∙ no_go;
    takes = λ n.
        ap (λ o. and_then o (selects g.program g.stimulus x r.branch (λ step. takes step n))) h.known
        ∙ ap (selects_by g.program g.stimulus x r.branch (λ step. takes step n) branch) h.running
        ∙ ap (does_first g.program g.stimulus x r.branch branch (λ step. takes step n)) h.items_are
        ∙ no_take (step_of g.program g.stimulus x r.branch branch rest) n;
    takes_default =
        ap (λ o. and_then o (selects g.program g.stimulus x r.branch takes_default)) h.known
        ∙ ap (selects_by g.program g.stimulus x r.branch takes_default branch) h.running
        ∙ ap (does_first g.program g.stimulus x r.branch branch takes_default) h.items_are
        ∙ no_default (step_of g.program g.stimulus x r.branch branch rest);
  }

  -- It waits where nothing is in its inbox.
  module _ (channel : ℕ) (side : Side) (stands : side_of branch channel ≡ Some side) (outside : branch.inside ≡ []) (nothing : parcels x.inboxes channel side ≡ []) where
    is_outside : is_among channel branch.inside ≡ false
    is_outside = ap (is_among channel) outside

    -- an input
    input_cannot : (i : kernel.Input) → item ≡ does (kernel.input i) → i.resource ≡ Chan channel → CannotAct g r x
    input_cannot i is on =
        cannot_by
        (λ s n. ap (takes s n) is)
        (λ s. ap (takes_default s) is)
        (ap (does_item (step_of g.program g.stimulus x r.branch branch rest)) is
        ∙ ap (inputs_from (step_of g.program g.stimulus x r.branch branch rest) i) on
        ∙ input_waits (step_of g.program g.stimulus x r.branch branch rest) channel side false stands is_outside i.target i.pos nothing)

    -- and an answer that is awaited
    answer_cannot : (pos : Pos) → item ≡ awaits channel pos → CannotAct g r x
    answer_cannot pos is =
        cannot_by
        (λ s n. ap (takes s n) is)
        (λ s. ap (takes_default s) is)
        (ap (does_item (step_of g.program g.stimulus x r.branch branch rest)) is
        ∙ answer_waits (step_of g.program g.stimulus x r.branch branch rest) channel side false stands is_outside pos nothing)

module _ (moment : Moment none_rests)
    (quiet : IsQuietMachine moment.setting.image moment.setting.stimulus moment.watched.machine) where
  open moment use {setting as g, image as is, roles as who, watched as w, told as x, standing as st}

  abbrev boxes : List Inboxes
  boxes = boxes_in g.program x.state.inboxes

  abbrev ghosts : Ghosts
  ghosts = st.wired.ghosts

  -- A branch that runs, and its thread.
  module _ {hand : Option Acquired} (thread_at : ThreadAt moment hand) where
    open thread_at use {core as c, thread as t, state as a, at_core as at_c, runner as r, runs as runs_r}

    abbrev view : ThreadView
    view = record { core = a; world = x.state; hand = hand }

    -- its branch has the runner's sides
    sides_are : (branch : Branch) → slice_get x.state.branches r.branch ≡ Some branch → branch.sides ≡ r.sides
    sides_are branch known =
        let works = works_at moment c t r hand runs_r in
        ap (λ (b : Branch). b.sides) (same_Some branch works.branch (sym known ∙ works.known)) ∙ works.sides

    -- it stands on the side
    stands_on : (branch : Branch) → slice_get x.state.branches r.branch ≡ Some branch → (channel : ℕ) (side : Side) → slice_index_or r.sides channel None ≡ Some side → side_of branch channel ≡ Some side
    stands_on branch known channel side stands_in = ap (λ l. slice_index_or l channel None) (sides_are branch known) ∙ stands_in

    -- At a side of a channel.
    module _ (channel : ℕ) (side : Side) (line : ℕ) (is_line : IsLine g.program line channel)
        (on_core : core_of g.program channel side ≡ c) where
      abbrev its_pair : Pair
      its_pair = pair_of g.program channel

      abbrev its_end : ChanEnd
      its_end = end thread_at channel side line is_line on_core

      abbrev its_quiet : QuietEnd
      its_quiet = quiet_end thread_at channel side line is_line on_core (nothing_moves moment quiet)

      -- a step that sends a token goes on
      one_sent : (f : Phase) → IsPlain f → ghosts.side_states line side ≡ side_state f false → nat_le 1 its_end.credits ≡ false → ⊥
      one_sent f plain spot_is few =
          let s = each_stuck moment quiet line channel (other_side side) is_line in
          has_credit its_quiet f s.phase spot_is s.spot_is plain s.plain few

      -- and so does one that sends a word, between pieces
      four_sent : ghosts.side_states line side ≡ side_state between false → nat_le 4 its_end.credits ≡ false → ⊥
      four_sent spot_is few =
          let s = each_stuck moment quiet line channel (other_side side) is_line in
          has_credits its_quiet between s.phase spot_is s.spot_is tt s.plain refl few

      -- a check of an END goes on
      end_come : ghosts.side_states line side ≡ side_state checks_end false → its_end.tokens ≡ [] → ⊥
      end_come spot_is none = let s = each_stuck moment quiet line channel (other_side side) is_line in by s s.stuck
        where
          by : (s : IsStuck moment quiet line channel (other_side side)) →
              IsAwaiting s.phase ⊎ (Goes w.machine.cores boxes ghosts line its_pair (other_side side) → ⊥) → ⊥
          by s (inl h) =
              let owed = nothing_owed its_quiet checks_end s.phase spot_is s.spot_is (awaiting_sent s.phase h) none refl in
              cc
          by s (inr stays) = stays (chkct_end_paused its_quiet false spot_is none)

      -- where no answer comes, the inbox is empty
      no_answer : (v : ℕ) → ghosts.side_states line side ≡ side_state (awaits_ack (offers v)) false → its_end.tokens ≡ [] → parcels boxes line side ≡ []
      no_answer v spot_is none = let s = each_stuck moment quiet line channel (other_side side) is_line in by s s.stuck
        where
          by : (s : IsStuck moment quiet line channel (other_side side)) →
              IsAwaiting s.phase ⊎ (Goes w.machine.cores boxes ghosts line its_pair (other_side side) → ⊥) → parcels boxes line side ≡ []
          by s (inl h) =
              nothing_came its_quiet (awaits_ack (offers v)) s.phase spot_is s.spot_is (awaiting_sent s.phase h) none refl refl
          by s (inr stays) =
              ⊎_elim (λ e. e) (λ go. absurd (stays go))
              (chkct_ack_paused its_quiet (offers v) false spot_is none)

      -- and where no word comes it is too
      no_word : ghosts.side_states line side ≡ side_state between false → take_word its_end.tokens ≡ NotYet → length its_end.tokens < 4 → parcels boxes line side ≡ []
      no_word spot_is slow few =
          in_paused its_quiet false spot_is slow few

      -- so it is the program's
      its_inbox : parcels boxes line side ≡ [] → parcels x.state.inboxes channel side ≡ []
      its_inbox none = sym (line_parcels g.program line channel is_line x.state.inboxes side) ∙ none

    -- a side on which a transfer begins, which is in no piece
    record BeginsOn (channel : ℕ) (side : Side) : Type 0 where
      line : ℕ
      is_line : IsLine g.program line channel
      on_core : core_of g.program channel side ≡ c
      spot_is : ghosts.side_states line side ≡ side_state between false

    -- where the next item uses the channel, and the thread is inside no transfer
    begins_on : r.transfer ≡ None → (branch : Branch) (items : List Item) → Runs x.state r.branch branch items → (channel : ℕ) (side : Side) → IsChannel g r channel →
        IsTrue (by_items (the_channel channel) items) → slice_index_or r.sides channel None ≡ Some side →
        core_of g.program channel side ≡ r.core → BeginsOn channel side
    begins_on none branch items on channel side used uses stands_in here = record {
      line = begins.line thread_at none branch on.known on.running channel side used its_use stands here;
      is_line = line_there thread_at none branch on.known on.running channel side used its_use stands here;
      on_core = core_there thread_at none branch on.known on.running channel side used its_use stands here;
      spot_is = spot_there thread_at none branch on.known on.running channel side used its_use stands here;
    }
      where
        stands : side_of branch channel ≡ Some side
        stands = stands_on branch on.known channel side stands_in

        its_use : IsTrue (by_items (the_channel channel) branch.items)
        its_use = subst (λ l. IsTrue (by_items (the_channel channel) l)) (sym on.items_are) uses

    -- An output's OUT goes on.
    pub offers_goes : (j : ℕ) → r.transfer ≡ None → (o : kernel.Output) (v : ℕ) → Communicates g r (puts_out o v) j view → ⊥
    offers_goes j none o v h =
        let channel = h.on.channel in
        let side = h.on.side in
        let used = piece_channel g r (puts_out o v) h.rest channel h.on.is_channel h.fits in
        let at = begins_on none h.has.branch (does (kernel.output o) ∷ h.rest) h.has.runs channel side used
        (piece_uses (puts_out o v) h.rest channel h.on.is_channel) h.on.stands_in h.on.here in
        four_sent channel side at.line at.is_line at.on_core at.spot_is
        (sends_wait moment quiet thread_at channel side at.line at.is_line at.on_core o.pos h.pc h.regs h.here (word_tokens v) h.steps.0)

    -- An input's IN waits for a word, and nothing is in the inbox.
    pub takes_in_cannot : (j : ℕ) → r.transfer ≡ None → (i : kernel.Input) → Communicates g r (takes_in i) j view → CannotAct g r x.state
    takes_in_cannot j none i h =
        let channel = h.on.channel in
        let side = h.on.side in
        let runs = h.has.runs in
        let used = piece_channel g r (takes_in i) h.rest channel h.on.is_channel h.fits in
        let at = begins_on none h.has.branch (does (kernel.input i) ∷ h.rest) runs channel side used
        (piece_uses (takes_in i) h.rest channel h.on.is_channel) h.on.stands_in h.on.here in
        let slow = word_waits moment quiet thread_at channel side at.line at.is_line at.on_core i.pos h.pc h.regs h.here R0 h.steps.0 in
        let nothing = its_inbox channel side at.line at.is_line at.on_core (no_word channel side at.line at.is_line at.on_core at.spot_is slow.0 slow.1) in
        input_cannot g r x.state h.has.branch (does (kernel.input i)) h.rest runs channel side
        (stands_on h.has.branch runs.known channel side h.on.stands_in) (st.plain.outside r.branch h.has.branch runs.known) nothing i
        refl h.on.is_channel

    -- Inside a transfer the branch waits for an answer, and nothing is in the inbox; the other steps go on.
    pub inside_cannot : (transfer : Transfer) → r.transfer ≡ Some transfer → (items : List Item) (j : ℕ) →
        InTransfer g r transfer items j view → CannotAct g r x.state
    inside_cannot transfer its items j h = by transfer.phase (goes_on_time transfer h.pos items x.state late_now h.left) h.steps
        (wired_inside g who w.machine x.state st.wired c t line r hand transfer runs_r its is_line)
      where
        channel : ℕ
        channel = transfer.channel

        side : Side
        side = transfer.side

        at : (line : ℕ) × IsLine g.program line channel × (core_of g.program channel side ≡ c)
        at = st.wired.listed c t channel side (record { runner = r; hand = hand; runs = runs_r; transfer = transfer; is = its; channel_is = refl; side_is = refl })

        line : ℕ
        line = at.0

        is_line : IsLine g.program line channel
        is_line = at.1

        late_now : transfer.late ≡ []
        late_now =
            sym (late_inside g who w.machine x.state st.wired c t line r hand transfer runs_r its is_line)
            ∙ quiet_on_time g.image.chans is.lines.wired w.machine.cores w.machine.links boxes ghosts st.wired.over (nothing_moves moment quiet)
            line (pair_of g.program channel) (other_side side) (is.lines.line line channel is_line)

        sends_one : (f : Phase) → IsPlain f → ghosts.side_states line side ≡ side_state f false → (n : ℕ) → Acts (home g r) r.thread (end_place g r channel side) (running r.tie h.pc h.regs) h.pos (sends (control_token n ∷ [])) h.pc h.regs → ⊥
        sends_one f plain spot_is n acts =
            one_sent channel side line is_line at.2 f plain spot_is
            (sends_wait moment quiet thread_at channel side line is_line at.2 h.pos h.pc h.regs h.here (control_token n ∷ []) acts)

        nothing_there : (n : ℕ) → Acts (home g r) r.thread (end_place g r channel side) (running r.tie h.pc h.regs) h.pos (protocol.takes n) h.pc h.regs → (its_end channel side line is_line at.2).tokens ≡ []
        nothing_there n acts = checks_wait moment quiet thread_at channel side line is_line at.2 h.pos h.pc h.regs h.here n acts

        awaits_cannot : (v : ℕ) → ghosts.side_states line side ≡ side_state (awaits_ack (offers v)) false → (its_end channel side line is_line at.2).tokens ≡ [] → (rest : List Item) → items ≡ awaits channel h.pos ∷ rest → CannotAct g r x.state
        awaits_cannot v spot_is none rest e =
            let runs = subst (Runs x.state r.branch h.has.branch) e h.has.runs in
            answer_cannot g r x.state h.has.branch (awaits channel h.pos) rest runs channel side (stands_on h.has.branch runs.known channel side h.stands_in) (st.plain.outside r.branch h.has.branch runs.known)
            (its_inbox channel side line is_line at.2 (no_answer channel side line is_line at.2 v spot_is none)) h.pos refl

        by : (f : Phase) → GoesWith f channel h.pos items →
            TakesSteps g r channel side h.pos (acts_left f) (IsBehind g r (items_behind transfer.phase items) j) h.pc h.regs →
            ghosts.side_states line side ≡ side_state f false → CannotAct g r x.state
        by between goes steps spot_is = absurd goes
        by (sends_end v) goes steps spot_is = absurd (sends_one (sends_end v) tt spot_is 1 steps.0)
        by (awaits_ack (offers v)) goes steps spot_is = awaits_cannot v spot_is (nothing_there 3 steps.0) goes.0 goes.1
        by (awaits_ack opens) goes steps spot_is = absurd goes
        by (awaits_ack closes) goes steps spot_is = absurd goes
        by checks_end goes steps spot_is = absurd (end_come channel side line is_line at.2 spot_is (nothing_there 1 steps.0))
        by sends_ack goes steps spot_is = absurd (sends_one sends_ack tt spot_is 3 steps.0)
        by was_closed goes steps spot_is = absurd goes
        by streams goes steps spot_is = absurd goes
