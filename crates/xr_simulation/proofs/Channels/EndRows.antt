-- A thread's step on the end of a side of a channel, whatever piece of code it belongs to, and how the program follows it.
use Rattle.std.proofs.Common.{◌≡◌, ℕ, suc, ◌+◌, ◌<◌, ◌≤◌, ◌≢◌, ◌++◌, IsTrue, List, [], ◌∷◌, length, Option, Some, None, refl, sym, ap, ◌∙◌, subst, arith}
use Rattle.std.specs.Prelude.{Bool, false, slice_get, slice_set}
use Rattle.std.proofs.lemmas.Option.{none-some, same_Some}
use Rattle.xw_words.specs.declared.pos.Pos.{Pos}
use Rattle.xs_instr.specs.declared.instr.Reg.{Reg}
use Rattle.xs_instr.specs.declared.state.ChanEnd.{ChanEnd}
use Rattle.xs_instr.specs.declared.state.CoreState.{CoreState}
use Rattle.xs_instr.specs.declared.state.Regs.{Regs}
use Rattle.xs_instr.specs.declared.state.Sent.{Sent}
use Rattle.xs_instr.specs.declared.state.Thread.{Thread}
use Rattle.xs_instr.specs.declared.state.Token.{Token}
use Rattle.xs_instr.specs.declared.trace.Record.TheVariants.{Com}
use Rattle.xs_instr.specs.declared.trace.Trap.TheVariants.{Mismatch}
use Rattle.xs_instr.specs.Did.{Made, Traps}
use Rattle.xs_instr.specs.Machine.{on_links, stepped}
use Rattle.xs_instr.specs.Registers.{reg_set}
use Rattle.xs_instr.specs.Slot.{slot}
use Rattle.xc_kernel.specs.Things.{channel as uses_channel}
use Rattle.xc_meaning.specs.States.Branches.{Branch, runs, side_of}
use Rattle.xc_meaning.specs.States.Channels.{Inboxes, Parcel, Side, other_side, taken}
use Rattle.xc_meaning.specs.Uses.{by_items}
use Rattle.xl_chan.specs.Protocols.{Acts, sends, takes, takes_word}
use Rattle.xl_image.specs.Images.{pair_of}
use Rattle.xl_plan.specs.Layout.{core_of}
use Rattle.xr_simulation.specs.Runners.{IsChannel, Runner, end_place, home}
use Rattle.xr_simulation.specs.MatchStates.{ProgressWith, none_rests}
use Rattle.xr_simulation.specs.ThreadViews.{running}
use Rattle.xr_simulation.specs.Transfers.{Transfer, owing, spared}
use Rattle.xr_simulation.specs.NextStep.{cost}
use Rattle.xr_simulation.specs.Wired.{HasAlone, IsLine, boxes_in}
use Rattle.xr_simulation.proofs.Channels.Inboxes.{line_boxed, line_parcels}
use Rattle.xr_simulation.proofs.Channels.Ends as ends
use Rattle.xr_simulation.proofs.Channels.Ends.{acts_there, end, end_is, left_over}
use Rattle.xr_simulation.proofs.Channels.EndSteps as step
use Rattle.xr_simulation.proofs.Channels.InTransfers.{IsFollowed, followed, goes_on_so, late_is, line_is, moves_on, moves_out, on_core, own_line, pauses, spot_is}
use Rattle.xr_simulation.proofs.Image.Lines.{line_known}
use Rattle.xr_simulation.proofs.Relation.Moments.{BranchAt, Moment, ThreadAt}
use Rattle.xr_simulation.proofs.Channels.OwnTransfers as own
use Rattle.xr_simulation.proofs.Channels.OwnTransfers.{ActsAtEnd, alone_still, does_so}
use Rattle.xr_simulation.proofs.Channels.TransferBegins as begin
use Rattle.xr_simulation.proofs.Channels.WiredMoves.{Moves, one_line, wired_moves}
use Rattle.xr_channels.specs.Phases.{Phase, between, side_state}
use Rattle.xr_channels.specs.Channels.{end_of_side}
use Rattle.xr_channels.specs.ChannelsOverLinks.{ChannelsOverLinks}
use Rattle.xr_channels.specs.SideRows as row
use Rattle.xr_channels.specs.SideRows.{CheckRow, EndCheckRow, InputRow, Next, SendRow, SideEnd, checks_makes, checks_pauses, checks_traps, end_makes, end_pauses, inputs_makes, inputs_pauses, inputs_traps, sends_makes, sends_pauses}
use Rattle.xr_channels.proofs.All.Frames.{boxed, length_box, parcels}
use Rattle.xr_channels.proofs.Sides.Updates.{moved_to}

-- what a thread is inside of behind such a step: the same side, in a later phase, or nothing more
pub data IsThen (channel : ℕ) (side : Side) (transfer : Option Transfer) (later : Phase) (late : List Parcel) : Type 0 where
  stays_in : transfer ≡ Some (owing channel side later late) → IsThen channel side transfer later late
  goes_out : transfer ≡ None → later ≡ between → late ≡ [] → IsThen channel side transfer later late

-- The side at the step: the channel's line, where the side stands and what is late behind it, what the thread may become a part of, and
-- that the branch has the side for itself.
pub record AtEnd {moment : Moment none_rests} (thread_at : ThreadAt moment None) (channel : ℕ) (side : Side) (phase : Phase)
    (late : List Parcel) : Type 0 where
  pub line : ℕ
  pub is_line : IsLine moment.setting.program line channel
  pub on_core : core_of moment.setting.program channel side ≡ thread_at.core
  pub stands : moment.standing.wired.ghosts.side_states line side ≡ side_state phase false
  pub late_is : moment.standing.wired.ghosts.late line (other_side side) ≡ late
  pub moves : (s : Runner) (later : Phase) (left_late : List Parcel) → IsThen channel side s.transfer later left_late →
      Moves moment.setting moment.roles thread_at.core thread_at.thread thread_at.runner s channel side later left_late
  pub alone : HasAlone moment.told.state.branches channel side thread_at.runner.branch

-- at the first step of a piece, which the thread begins outside of any other
pub begins_there : {moment : Moment none_rests} (thread_at : ThreadAt moment None) → thread_at.runner.transfer ≡ None → (branch : Branch) →
    slice_get moment.told.state.branches thread_at.runner.branch ≡ Some branch → branch.mode ≡ runs → (channel : ℕ) (side : Side) →
    IsChannel moment.setting thread_at.runner channel → IsTrue (by_items (uses_channel channel) branch.items) →
    side_of branch channel ≡ Some side → core_of moment.setting.program channel side ≡ thread_at.runner.core →
    AtEnd thread_at channel side between []
begins_there {moment} thread_at none branch known on channel side is_channel uses stands here =
    record {
      line = begin.line thread_at none branch known on channel side is_channel uses stands here;
      is_line = begin.line_there thread_at none branch known on channel side is_channel uses stands here;
      on_core = begin.core_there thread_at none branch known on channel side is_channel uses stands here;
      stands = begin.spot_there thread_at none branch known on channel side is_channel uses stands here;
      late_is = begin.late_there thread_at none branch known on channel side is_channel uses stands here;
      moves = moves_by;
      alone = begin.alone_there thread_at none branch known on channel side is_channel uses stands here;
    }
  where
    open moment use {setting as g, roles as who}
    open thread_at use {core as c, thread as t, runner as r, runs as runs_r}

    moves_by : (s : Runner) (later : Phase) (left_late : List Parcel) → IsThen channel side s.transfer later left_late →
        Moves g who c t r s channel side later left_late
    moves_by s later left_late (stays_in e) = begin.begins thread_at none branch known on channel side is_channel uses stands here s later left_late e
    moves_by s later left_late (goes_out e f l) = record {
      old = λ transfer was. absurd (none-some transfer (sym none ∙ was));
      new = λ transfer its. absurd (none-some transfer (sym e ∙ its));
      over = λ out. (f, l);
      mine = λ d u other. absurd (begin.nobody thread_at none branch known on channel side is_channel uses stands here d u other);
    }

-- inside a piece
pub inside_there : {moment : Moment none_rests} (thread_at : ThreadAt moment None) (channel : ℕ) (side : Side) (phase : Phase)
    (late : List Parcel) →
    thread_at.runner.transfer ≡ Some (owing channel side phase late) → AtEnd thread_at channel side phase late
inside_there {moment} thread_at channel side phase late its =
    record {
      line = own_line thread_at channel side phase late its;
      is_line = line_is thread_at channel side phase late its;
      on_core = on_core thread_at channel side phase late its;
      stands = spot_is thread_at channel side phase late its;
      late_is = late_is thread_at channel side phase late its;
      moves = moves_by;
      alone = st.alone c t r None (owing channel side phase late) runs_r its;
    }
  where
    open moment use {setting as g, roles as who, watched as w, told as x, standing as st}
    open thread_at use {core as c, thread as t, runner as r, runs as runs_r}

    moves_by : (s : Runner) (later : Phase) (left_late : List Parcel) → IsThen channel side s.transfer later left_late →
        Moves g who c t r s channel side later left_late
    moves_by s later left_late (stays_in e) = moves_on thread_at channel side phase late its s later left_late e
    moves_by s later left_late (goes_out e f l) =
        subst (Moves g who c t r s channel side later) (sym l)
        (subst (λ p. Moves g who c t r s channel side p []) (sym f) (moves_out thread_at channel side phase late its s e))

-- where a thread is inside something then, its branch has that side for itself
alone_then : (channel : ℕ) (side : Side) (later : Phase) (late : List Parcel) (transfer : Option Transfer) →
    IsThen channel side transfer later late →
    (bs : List Branch) (b : ℕ) →
    HasAlone bs channel side b → (which : Transfer) → transfer ≡ Some which → HasAlone bs which.channel which.side b
alone_then channel side later late transfer (stays_in e) bs b h which f =
    subst (λ (k : Transfer). HasAlone bs k.channel k.side b) (same_Some (owing channel side later late) which (sym e ∙ f)) h
alone_then channel side later late transfer (goes_out e l n) bs b h which f = absurd (none-some which (sym e ∙ f))

-- The step pauses; or it goes on, and the branch acts or does nothing; or it traps, and the branch errs.
module _ {moment : Moment none_rests} {thread_at : ThreadAt moment None} (branch_at : BranchAt thread_at) {channel : ℕ} {side : Side}
    {phase : Phase} {late : List Parcel}
    (at_end : AtEnd thread_at channel side phase late) where
  open moment use {setting as g, image as is, roles as who, watched as w, told as x, standing as st}
  open thread_at use {core as c, thread as t, state as a, at_core as at_c, runner as r, runs as runs_r}
  open branch_at use {branch, stand}
  open at_end use {line, is_line, on_core as sides_on}

  abbrev pub Goal : Type 0
  Goal = IsFollowed g who w x c t r a (slot (home g r) a r.thread)

  abbrev pub boxes : List Inboxes
  boxes = boxes_in g.program x.state.inboxes

  abbrev pub side_end : SideEnd
  side_end = ends.side_end thread_at channel side line is_line sides_on

  abbrev own_end : ChanEnd
  own_end = end thread_at channel side line is_line sides_on

  own_end_is : slice_get a.ends (end_of_side (pair_of g.program channel) side).end ≡ Some own_end
  own_end_is = end_is thread_at channel side line is_line sides_on

  pub known : channel < length g.program.channels
  known = line_known g.program line channel is_line

  few_boxes : channel < length x.state.inboxes
  few_boxes = let lt = known in let long = st.wired.long in omega (arith, lt, long)

  once : (k : ℕ) → IsLine g.program k channel → k ≡ line
  once k other = one_line g is.lines k line channel other is_line

  -- the program's inboxes are those of the line
  pub found_there : (ps : List Parcel) → parcels boxes line side ≡ ps → parcels x.state.inboxes channel side ≡ ps
  found_there ps found = sym (line_parcels g.program line channel is_line x.state.inboxes side) ∙ found

  -- a parcel is put at the other side
  abbrev pub put_there : Parcel → List Inboxes
  put_there p = boxed boxes line (other_side side) (parcels boxes line (other_side side) ++ p ∷ [])

  pub boxes_put : (p : Parcel) →
      boxes_in g.program (boxed x.state.inboxes channel (other_side side)
      (parcels x.state.inboxes channel (other_side side) ++ p ∷ [])) ≡ put_there p
  boxes_put p =
      line_boxed g.program line channel is_line x.state.inboxes (other_side side)
      (parcels x.state.inboxes channel (other_side side) ++ p ∷ []) few_boxes once
      ∙ ap (λ l. boxed boxes line (other_side side) (l ++ p ∷ []))
      (sym (line_parcels g.program line channel is_line x.state.inboxes (other_side side)))

  -- the first one is taken, and these are left
  abbrev pub taken_there : List Parcel → List Inboxes
  taken_there ps = boxed boxes line side ps

  pub boxes_taken : (ps : List Parcel) → boxes_in g.program (boxed x.state.inboxes channel side ps) ≡ taken_there ps
  boxes_taken ps = line_boxed g.program line channel is_line x.state.inboxes side ps few_boxes once

  -- and answered
  abbrev pub answered_there : List Parcel → List Inboxes
  answered_there ps = boxed (boxed boxes line side ps) line (other_side side) (parcels boxes line (other_side side) ++ taken ∷ [])

  pub boxes_answered : (ps : List Parcel) →
      boxes_in g.program (boxed (boxed x.state.inboxes channel side ps) channel (other_side side)
      (parcels x.state.inboxes channel (other_side side) ++ taken ∷ []))
      ≡ answered_there ps
  boxes_answered ps =
      let lt = few_boxes in
      let size : length (boxed x.state.inboxes channel side ps) ≡ length x.state.inboxes = length_box x.state.inboxes channel _ in
      line_boxed g.program line channel is_line (boxed x.state.inboxes channel side ps) (other_side side)
      (parcels x.state.inboxes channel (other_side side) ++ taken ∷ []) (omega (arith, lt, size)) once
      ∙ ap (λ b. boxed b line (other_side side) (parcels x.state.inboxes channel (other_side side) ++ taken ∷ [])) (boxes_taken ps)
      ∙ ap (λ l. boxed (boxed boxes line side ps) line (other_side side) (l ++ taken ∷ []))
      (sym (line_parcels g.program line channel is_line x.state.inboxes (other_side side)))

  module _ (pc : ℕ) (regs : Regs) (here : slice_get a.threads r.thread ≡ Some (running r.tie pc regs)) where
    abbrev pub thread : Thread
    thread = running r.tie pc regs

    -- what the step leaves of the core
    abbrev pub left : Regs → List ChanEnd → CoreState
    left regs' es = step.left g r a pc regs regs' here es

    -- the step goes on, and the program does nothing
    module _ (on : branch.mode ≡ runs) (next : Option Transfer) (later : Phase) (left_late : List Parcel)
        (then : IsThen channel side next later left_late)
        (rests : (core thread : ℕ) → Bool) (elsewhere : (d u : ℕ) → d ≢ c → rests d u ≡ false) (fewer : ℕ) (few : suc fewer + spared next ≤ stand.left + spared r.transfer)
        (by : (es : List ChanEnd) → ProgressWith g (record r { transfer = next }) (rests c t) next branch.items fewer
        (record { core = left regs es; world = x.state; hand = None })) where
      pub goes_row : (es : List ChanEnd) (sent : List Sent) → slot (home g r) a r.thread ≡ Made (left regs es) None sent →
          Next side_end (left regs es) sent boxes (side_state later false) left_late → Goal
      goes_row es sent is_made made =
          followed rests elsewhere (left regs es) None sent (ap (stepped (home g r) w.machine r.core r.thread a) is_made)
          (goes_on_so branch_at on pc regs here es made.size next sent rests fewer few (by es)
          (wired_moves g is.lines who w.machine x.state st.wired c t a at_c r None runs_r (record r { transfer = next }) None channel side
          line is_line sides_on later left_late
          (at_end.moves (record r { transfer = next }) later left_late then) (left regs es) _ x.state refl sent refl made.size refl
          (left_over thread_at channel side line is_line sides_on (left regs es) sent boxes _ made.over))
          (alone_then channel side later left_late next then x.state.branches r.branch at_end.alone))

    -- What the step does, by what it finds.

    pub sends_row : (pos : Pos) (ks : List Token) (Then : List ChanEnd → List Sent → Type 0) →
        Acts (home g r) r.thread (end_place g r channel side) thread pos (sends ks) pc regs →
        SendRow side_end r.thread thread ks (Then (row.sent_gone side_end r.thread thread ks).ends (row.sent_gone side_end r.thread thread ks).sent) →
        ((es : List ChanEnd) (sent : List Sent) → slot (home g r) a r.thread ≡ Made (left regs es) None sent → Then es sent → Goal) →
        Goal
    sends_row pos ks Then acts result made_so =
        by ((acts_there thread_at channel side line is_line sides_on r.tie pos (sends ks) pc regs acts).by a own_end here own_end_is) result
      where
        by : slot (home g r) a r.thread ≡ row.sent_did side_end r.thread thread ks →
            SendRow side_end r.thread thread ks (Then (row.sent_gone side_end r.thread thread ks).ends (row.sent_gone side_end r.thread thread ks).sent) →
            Goal
        by e (sends_pauses did few) = pauses (e ∙ did)
        by e (sends_makes did made) =
            made_so (row.sent_gone side_end r.thread thread ks).ends (row.sent_gone side_end r.thread thread ks).sent (e ∙ did) made

    pub checks_row : (pos : Pos) (n : ℕ) (given : Parcel) (wanted : Parcel → Bool) (boxes' : List Parcel → List Inboxes) (later : Phase) →
        Acts (home g r) r.thread (end_place g r channel side) thread pos (takes n) pc regs →
        CheckRow side_end r.thread thread n given wanted boxes' (side_state later false) →
        ((ps : List Parcel) → parcels x.state.inboxes channel side ≡ given ∷ ps → (es : List ChanEnd) (sent : List Sent) →
        slot (home g r) a r.thread ≡ Made (left regs es) None sent →
        Next side_end (left regs es) sent (boxes' ps) (side_state later false) [] → Goal) →
        ((p : Parcel) (ps : List Parcel) → parcels x.state.inboxes channel side ≡ p ∷ ps → wanted p ≡ false →
        slot (home g r) a r.thread ≡ Traps Mismatch → Goal) →
        Goal
    checks_row pos n given wanted boxes' later acts result made_so trapped_so =
        by ((acts_there thread_at channel side line is_line sides_on r.tie pos (takes n) pc regs acts).by a own_end here own_end_is) result
      where
        by : slot (home g r) a r.thread ≡ row.check_did side_end r.thread thread n →
            CheckRow side_end r.thread thread n given wanted boxes' (side_state later false) → Goal
        by e (checks_pauses did none) = pauses (e ∙ did)
        by e (checks_makes ps did found made) = made_so ps (found_there (given ∷ ps) found)
            (row.taken_gone side_end r.thread thread 1).ends (row.taken_gone side_end r.thread thread 1).sent (e ∙ did) made
        by e (checks_traps p ps did found wrong) = trapped_so p ps (found_there (p ∷ ps) found) wrong (e ∙ did)

    pub ends_row : (pos : Pos) (later : Phase) → Acts (home g r) r.thread (end_place g r channel side) thread pos (takes 1) pc regs →
        EndCheckRow side_end r.thread thread (side_state later false) →
        ((es : List ChanEnd) (sent : List Sent) → slot (home g r) a r.thread ≡ Made (left regs es) None sent →
        Next side_end (left regs es) sent boxes (side_state later false) [] → Goal) →
        Goal
    ends_row pos later acts result made_so =
        by ((acts_there thread_at channel side line is_line sides_on r.tie pos (takes 1) pc regs acts).by a own_end here own_end_is) result
      where
        by : slot (home g r) a r.thread ≡ row.check_did side_end r.thread thread 1 →
            EndCheckRow side_end r.thread thread (side_state later false) → Goal
        by e (end_pauses did none) = pauses (e ∙ did)
        by e (end_makes did made) = made_so (row.taken_gone side_end r.thread thread 1).ends (row.taken_gone side_end r.thread thread 1).sent
            (e ∙ did) made

    pub word_row : (pos : Pos) (to : Reg) (given : ℕ → Parcel) (wanted : Parcel → Bool) (boxes' : List Parcel → List Inboxes)
        (later : Phase) (left_late : List Parcel) →
        Acts (home g r) r.thread (end_place g r channel side) thread pos (takes_word to) pc regs →
        InputRow side_end r.thread thread to given wanted boxes' (side_state later false) left_late →
        ((v : ℕ) (ps : List Parcel) → parcels x.state.inboxes channel side ≡ given v ∷ ps → (es : List ChanEnd) (sent : List Sent) →
        slot (home g r) a r.thread ≡ Made (left (reg_set regs to v) es) (Some (Com r.core v)) sent →
        Next side_end (left (reg_set regs to v) es) sent (boxes' ps) (side_state later false) left_late → Goal) →
        ((p : Parcel) (ps : List Parcel) → parcels x.state.inboxes channel side ≡ p ∷ ps → wanted p ≡ false →
        slot (home g r) a r.thread ≡ Traps Mismatch → Goal) →
        Goal
    word_row pos to given wanted boxes' later left_late acts result made_so trapped_so =
        by ((acts_there thread_at channel side line is_line sides_on r.tie pos (takes_word to) pc regs acts).by a own_end here
        own_end_is) result
      where
        by : slot (home g r) a r.thread ≡ row.in_did side_end r.thread thread to →
            InputRow side_end r.thread thread to given wanted boxes' (side_state later false) left_late → Goal
        by e (inputs_pauses did waits few) = pauses (e ∙ did)
        by e (inputs_makes v ps did found made) = made_so v ps (found_there (given v ∷ ps) found)
            (row.taken_gone side_end r.thread thread 4).ends (row.taken_gone side_end r.thread thread 4).sent (e ∙ did) made
        by e (inputs_traps p ps did found wrong) = trapped_so p ps (found_there (p ∷ ps) found) wrong (e ∙ did)

  -- The step goes on, and the branch acts.
  module _ (does : ActsAtEnd branch_at) (later : Phase) (left_late : List Parcel) (then : IsThen channel side does.transfer later left_late)
      (rests : (core thread : ℕ) → Bool) (elsewhere : (d u : ℕ) → d ≢ c → rests d u ≡ false) (j further : ℕ) (few : j ≤ stand.left)
      (enough : further ≤ j + 2 + cost g r)
      (boxes' : List Inboxes) (boxes_are : boxes_in g.program does.world.inboxes ≡ boxes')
      (as_many : length does.world.inboxes ≡ length x.state.inboxes)
      (by : (es : List ChanEnd) → ProgressWith g (own.s does) (rests c t) does.transfer does.items further (own.behind does es)) where
    pub acts_row : (es : List ChanEnd) (sent : List Sent) → slot (home g r) a r.thread ≡ Made (own.left does es) does.made sent →
        Next side_end (own.left does es) sent boxes' (side_state later false) left_late → Goal
    acts_row es sent is_made made =
        followed rests elsewhere (own.left does es) does.made sent (ap (stepped (home g r) w.machine r.core r.thread a) is_made)
        (does_so does es made.size sent rests j further few enough (by es)
        (wired_moves g is.lines who w.machine x.state st.wired c t a at_c r None runs_r (own.s does) None channel side line is_line
        sides_on later left_late
        (at_end.moves (own.s does) later left_late then) (own.left does es) _ does.world refl sent refl made.size as_many
        (subst (λ l. ChannelsOverLinks g.image.chans (slice_set w.machine.cores c (own.left does es)) (on_links w.machine.links c sent) l
        (moved_to st.wired.ghosts line side (side_state later false) left_late)) (sym boxes_are)
        (left_over thread_at channel side line is_line sides_on (own.left does es) sent boxes' _ made.over)))
        (alone_then channel side later left_late does.transfer then does.world.branches r.branch
        (alone_still does es channel side known at_end.alone)))
