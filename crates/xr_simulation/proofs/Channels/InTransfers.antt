-- A thread inside a transfer: its side's line and spot, and what its steps without an action of the program's leave.
use Rattle.std.proofs.Common.{◌≡◌, ℕ, suc, ◌+◌, ◌*◌, ◌≤◌, ◌≢◌, List, [], length, Option, Some, None, refl, sym, ap, ◌∙◌, subst, arith}
use Rattle.std.specs.Prelude.{Bool, false, slice_get, slice_set}
use Rattle.std.proofs.lemmas.Option.{none-some, same_Some}
use Rattle.xs_instr.specs.declared.state.ChanEnd.{ChanEnd}
use Rattle.xs_instr.specs.declared.state.CoreState.{CoreState}
use Rattle.xs_instr.specs.declared.state.Mode.TheVariants.{Running}
use Rattle.xs_instr.specs.declared.state.Regs.{Regs}
use Rattle.xs_instr.specs.declared.trace.Record.{Record}
use Rattle.xs_instr.specs.Did.{Did, Paused}
use Rattle.xs_instr.specs.declared.state.Sent.{Sent}
use Rattle.xs_instr.specs.Machine.{Machine, Step, noted, on_links, stepped}
use Rattle.xs_instr.specs.declared.state.Thread.{Thread}
use Rattle.xc_meaning.specs.Counts.KernelCounts.{kernel_bound}
use Rattle.xc_meaning.specs.States.Branches.{runs, ended, erred}
use Rattle.xc_meaning.specs.States.Channels.{Parcel, Side, other_side}
use Rattle.xl_par.specs.Acquired.{Acquired}
use Rattle.xl_plan.specs.Layout.{core_of}
use Rattle.xr_match.specs.Lives.{Life, Watched, watched_after}
use Rattle.xr_match.specs.Meanings.{of_kernel}
use Rattle.xr_match.specs.Sources.{Counted}
use Rattle.xr_simulation.specs.Roles.{Roles, empty}
use Rattle.xr_simulation.specs.Runners.{Runner, Setting, home}
use Rattle.xr_simulation.specs.ThreadViews.{ThreadView, running}
use Rattle.xr_simulation.specs.MatchStates.{EventsAre, RunsBranch, ProgressBy, ProgressWith, ThreadIs, none_rests}
use Rattle.xr_simulation.specs.Transfers.{Transfer, owing, spared}
use Rattle.xr_simulation.specs.NextStep.{is_watching}
use Rattle.xr_simulation.specs.Wired.{AreWired, HasAlone, IsLine, IsTransferring}
use Rattle.xr_simulation.proofs.Channels.Advances.{advances, watched_next, who_next}
use Rattle.xr_simulation.proofs.Channels.EndSteps as step
use Rattle.xr_simulation.proofs.Channels.EndSteps.{advance, gone_on}
use Rattle.xr_simulation.proofs.Lives.OwnLife.{own_life}
use Rattle.xr_simulation.proofs.Relation.Moments.{BranchAt, Moment, ThreadAt}
use Rattle.xr_simulation.proofs.Relation.Lasting.{Follows, told_by}
use Rattle.xr_simulation.proofs.RelyGuarantee.Events.{events_on}
use Rattle.xr_simulation.proofs.Channels.WiredMoves.{Moves}
use Rattle.xr_simulation.proofs.Channels.Wiring.{late_inside, wired_inside}
use Rattle.xr_channels.specs.Phases.{Phase, between, side_state}

-- the machine behind a thread's step, which leaves this core, writes this down and sends that over links
abbrev pub behind_step : Machine → (core : ℕ) → CoreState → Option Record → List Sent → Machine
behind_step m c left made sent = record { cores = slice_set m.cores c left; links = on_links m.links c sent; trace = noted m.trace made }

-- What a thread's next slot is, and how the program follows it: the thread pauses; or the slot is a step, and behind a piece of the
-- program's run the two sides stand so again.
pub data IsFollowed (g : Setting) (who : Roles) (w : Watched) (x : Counted (of_kernel g.program)) (c t : ℕ) (r : Runner) (a : CoreState) (did : Did CoreState) : Type 0 where
  pauses : did ≡ Paused → IsFollowed g who w x c t r a did
  followed : (may_rest : (core thread : ℕ) → Bool) → ((d u : ℕ) → d ≢ c → may_rest d u ≡ false) →
      (left : CoreState) (made : Option Record) (sent : List Sent) →
      stepped (home g r) w.machine r.core r.thread a did ≡ Some (behind_step w.machine r.core left made sent) →
      Follows g may_rest who w x (watched_after w (Step c t) (behind_step w.machine c left made sent)) →
      IsFollowed g who w x c t r a did

module _ {may_rest : (core thread : ℕ) → Bool} {moment : Moment may_rest} {hand : Option Acquired} (thread_at : ThreadAt moment hand)
    (channel : ℕ) (side : Side) (phase : Phase) (late : List Parcel)
    (its : thread_at.runner.transfer ≡ Some (owing channel side phase late)) where
  open moment use {setting as g, roles as who, watched as w, told as x, standing as st}
  open thread_at use {core as c, thread as t, runner as r, runs as runs_r}

  pub is_in : IsTransferring who c t channel side
  is_in = record { runner = r; hand = hand; runs = runs_r; transfer = owing channel side phase late; is = its; channel_is = refl; side_is = refl }

  abbrev pub own_line : ℕ
  own_line = (st.wired.listed c t channel side is_in).0

  pub line_is : IsLine g.program own_line channel
  line_is = (st.wired.listed c t channel side is_in).1

  pub on_core : core_of g.program channel side ≡ c
  on_core = (st.wired.listed c t channel side is_in).2

  pub spot_is : st.wired.ghosts.side_states own_line side ≡ side_state phase false
  spot_is = wired_inside g who w.machine x.state st.wired c t own_line r hand (owing channel side phase late) runs_r its line_is

  pub late_is : st.wired.ghosts.late own_line (other_side side) ≡ late
  late_is = late_inside g who w.machine x.state st.wired c t own_line r hand (owing channel side phase late) runs_r its line_is

  was_it : (transfer : Transfer) → r.transfer ≡ Some transfer → transfer ≡ owing channel side phase late
  was_it transfer is = same_Some transfer (owing channel side phase late) (sym is ∙ its)

  old : (transfer : Transfer) → r.transfer ≡ Some transfer → (transfer.channel ≡ channel) × (transfer.side ≡ side)
  old transfer is = (ap (λ (k : Transfer). k.channel) (was_it transfer is), ap (λ (k : Transfer). k.side) (was_it transfer is))

  -- it goes on in its transfer, or leaves it
  pub moves_on : (s : Runner) (later : Phase) (left_late : List Parcel) → s.transfer ≡ Some (owing channel side later left_late) →
      Moves g who c t r s channel side later left_late
  moves_on s later left_late is = record {
    old = old;
    new = λ transfer its'. same_Some transfer (owing channel side later left_late) (sym its' ∙ is);
    over = λ none. absurd (none-some (owing channel side later left_late) (sym none ∙ is));
    mine = λ d u other. st.wired.one c t d u channel side is_in other;
  }

  pub moves_out : (s : Runner) → s.transfer ≡ None → Moves g who c t r s channel side between []
  moves_out s none = record {
    old = old;
    new = λ transfer its'. absurd (none-some transfer (sym none ∙ its'));
    over = λ e. (refl, refl);
    mine = λ d u other. st.wired.one c t d u channel side is_in other;
  }

-- The thread goes on, sends this over links, and the program does nothing.
module _ {moment : Moment none_rests} {thread_at : ThreadAt moment None} (branch_at : BranchAt thread_at)
    (on : branch_at.branch.mode ≡ runs) (pc : ℕ) (regs : Regs)
    (here : slice_get thread_at.state.threads thread_at.runner.thread ≡ Some (running thread_at.runner.tie pc regs))
    (ends : List ChanEnd) (size : length ends ≡ length thread_at.state.ends) (next : Option Transfer) (sent : List Sent) where
  open moment use {setting as g, image as is, roles as who, watched as w, told as x}
  open thread_at use {core as c, thread as t, state as a, runner as r}
  open branch_at use {branch, known, stand}

  abbrev pub left : CoreState
  left = step.left g r a pc regs regs here ends

  abbrev pub s : Runner
  s = record r { transfer = next }

  abbrev pub behind : ThreadView
  behind = record { core = left; world = x.state; hand = None }

  abbrev pub watched : Watched
  watched = watched_next thread_at left (advance g r a pc regs regs here ends size) next sent

  abbrev more : ℕ → ℕ
  more = (told_by g.program g.stimulus x [] x.state).actions

  -- and takes no events
  unwatched : is_watching branch.items ≡ false
  unwatched =
      let same : stand.thread.thread ≡ running r.tie pc regs = same_Some stand.thread.thread (running r.tie pc regs)
      (sym stand.thread.there ∙ here) in
      let is = subst (λ m. EventsAre m branch.items stand.thread.thread.event_bit) on stand.thread.events in
      sym is ∙ ap (λ (i : Thread). i.event_bit) same

  -- it is on its way still, by fewer steps
  own_stand : (rests : Bool) (fewer : ℕ) → suc fewer + spared next ≤ stand.left + spared r.transfer → ProgressWith g s rests next branch.items fewer behind → RunsBranch g s rests None left x.state (watched.lives c t) more branch
  own_stand rests fewer few by = record {
    core = stand.core;
    family = stand.family;
    footprint = stand.footprint;
    parents = stand.parents;
    thread = record {
      thread = running r.tie (pc + 1) regs;
      there = gone_on g r a pc regs regs here ends;
      tied = refl;
      events = events_on
          branch.mode branch.items false on (sym unwatched);
      is = subst (λ m. ThreadIs r.parents m Running) (sym on) refl;
    };
    in_hand = empty refl;
    sides = stand.sides;
    inside = stand.inside;
    done = λ over. absurd (runs_ended (sym on ∙ over));
    stops = λ over. absurd (runs_erred (sym on ∙ over));
    ends_tied = λ over. absurd (runs_ended (sym on ∙ over));
    left = fewer;
    bound =
        let old = stand.bound in
        let same : x.actions r.family + 0 ≡ x.actions r.family = omega arith in
        let life : (watched.lives c t).steps ≡ (w.lives c t).steps + 1 = ap (λ (l : Life). l.steps) (own_life w watched.machine c t) in
        subst (λ m. (watched.lives c t).steps + (fewer + spared next) ≤ kernel_bound g.program * (m + 1)) (sym same) (omega arith);
    by = subst (λ m. ProgressBy g s rests branch.items m fewer behind) (sym on) by;
  }
    where
      runs_ended : runs ≡ ended → ⊥
      runs_ended f = cc

      runs_erred : runs ≡ erred → ⊥
      runs_erred f = cc

  -- so the two sides stand so again
  pub goes_on_so : (may_rest' : (core thread : ℕ) → Bool) (fewer : ℕ) → suc fewer + spared next ≤ stand.left + spared r.transfer → ProgressWith g s (may_rest' c t) next branch.items fewer behind →
      AreWired g (who_next thread_at left (advance g r a pc regs regs here ends size) next sent) watched.machine x.state →
      ((transfer : Transfer) → next ≡ Some transfer → HasAlone x.state.branches transfer.channel transfer.side r.branch) → Follows g may_rest' who w x watched
  goes_on_so may_rest' fewer few by wired alone =
      advances thread_at left (advance g r a pc regs regs here ends size) next sent may_rest' branch known wired alone
      (own_stand (may_rest' c t) fewer few by)
