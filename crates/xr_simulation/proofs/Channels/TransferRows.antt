-- The steps of a transfer without an action of the program's: an output's END, and CHKCT END and ACK of an input.
use Rattle.std.proofs.Common.{◌≡◌, ℕ, ◌+◌, ◌≤◌, ◌≢◌, ◌⊎◌, inl, inr, List, [], ◌∷◌, Some, None, refl, sym, ap, subst, arith}
use Rattle.std.specs.Prelude.{Bool, false, ◌&&◌, nat_eq, slice_get}
use Rattle.std.proofs.lemmas.Bool.{ne_eqb}
use Rattle.xw_words.specs.declared.pos.Pos.{Pos}
use Rattle.xs_instr.specs.declared.state.ChanEnd.{ChanEnd}
use Rattle.xs_instr.specs.declared.state.Regs.{Regs}
use Rattle.xs_instr.specs.declared.state.Sent.{Sent}
use Rattle.xs_instr.specs.Ends.{control_token}
use Rattle.xc_meaning.specs.States.Branches.{runs}
use Rattle.xc_meaning.specs.States.Channels.{Parcel, Side}
use Rattle.xr_simulation.specs.Runners.{Runner}
use Rattle.xr_simulation.specs.ThreadViews.{ThreadView, running}
use Rattle.xr_simulation.specs.MatchStates.{IfTrue, IsAtRest, ProgressWith, cost_behind, none_rests}
use Rattle.xr_simulation.specs.Transfers.{GoesWith, acts_left, all_but_first, in_phase, items_behind, owing, spared, steps_left}
use Rattle.xr_simulation.specs.NextStep.{Has, InTransfer, IsBehind, LeftTo, TakesSteps, cost, on_time, unput}
use Rattle.xr_simulation.proofs.OwnSteps.Answers as answers
use Rattle.xr_simulation.proofs.Channels.EndRows.{AtEnd, Goal, boxes, ends_row, goes_out, goes_row, inside_there, sends_row, side_end, stays_in}
use Rattle.xr_simulation.proofs.Channels.EndSteps as step
use Rattle.xr_simulation.proofs.Channels.EndSteps.{gone_on}
use Rattle.xr_simulation.proofs.Relation.Moments.{BranchAt, Moment, ThreadAt}
use Rattle.xr_simulation.proofs.OwnSteps.Events.{rests_alone, rests_there}
use Rattle.xr_simulation.proofs.Channels.Protocols.{ack_sent, end_sent, end_taken}
use Rattle.xr_simulation.proofs.RelyGuarantee.Phases.{fits_as, has_as, rest_as, steps_as}
use Rattle.xr_simulation.proofs.RelyGuarantee.Events.{here_at}
use Rattle.xr_channels.specs.Phases.{Phase, awaits_ack, between, checks_end, offers, sends_ack, sends_end, side_state}
use Rattle.xr_channels.specs.SideRows.{Next, SendRow, SentNext}
use Rattle.xr_channels.proofs.All.SideEnds as rows

-- nobody is at rest on another core
pub alone_elsewhere : (c : ℕ) (b : Bool) (d : ℕ) → d ≢ c → (nat_eq d c && b) ≡ false
alone_elsewhere c b d ne = ap (λ k. k && b) (ne_eqb d c ne)

module _ {moment : Moment none_rests} {thread_at : ThreadAt moment None} (branch_at : BranchAt thread_at)
    (on : branch_at.branch.mode ≡ runs) (channel : ℕ) (side : Side) where
  open moment use {setting as g, image as is, roles as who, watched as w, told as x, standing as st}
  open thread_at use {core as c, thread as t, state as a, at_core as at_c, runner as r, runs as runs_r}
  open branch_at use {branch, stand}

  abbrev now : ThreadView
  now = record { core = a; world = x.state; hand = None }

  -- the branch has these items still, where the thread goes on
  has_still : (pc : ℕ) (regs : Regs) (here : slice_get a.threads r.thread ≡ Some (running r.tie pc regs)) (es : List ChanEnd) → Has g r branch.items now → Has g r branch.items (record { core = step.left g r a pc regs regs here es; world = x.state; hand = None })
  has_still pc regs here es h =
      let then : ThreadView = record { core = step.left g r a pc regs regs here es; world = x.state; hand = None } in
      record {
        branch = h.branch;
        runs = h.runs;
        core = h.core;
        holds = answers.store_as g r c a x.state now then refl refl h.holds;
        ports = answers.ports_as g r c a x.state now then (λ p listed its. refl) h.ports;
      }

  -- the thread is at the next step of its transfer
  later_steps : (phase later : Phase) (late : List Parcel) (j fewer : ℕ) → steps_left later + j + cost_behind g r late ≤ fewer →
      (h : InTransfer g r (owing channel side phase late) branch.items j now) → LeftTo (owing channel side later late) h.pos branch.items x.state →
      TakesSteps g r channel side h.pos (acts_left later) (IsBehind g r (items_behind later branch.items) j) (h.pc + 1) h.regs →
      (es : List ChanEnd) →
      ProgressWith g (record r { transfer = Some (owing channel side later late) }) false (Some (owing channel side later late)) branch.items fewer (record { core = step.left g r a h.pc h.regs h.regs h.here es; world = x.state; hand = None })
  later_steps phase later late j fewer few h left steps es =
      let next = Some (owing channel side later late) in (
        j,
        few_as late few,
        record {
          pos = h.pos;
          left = left;
          stands_in = h.stands_in;
          no_hand = refl;
          pc = h.pc + 1;
          regs = h.regs;
          here = gone_on g r a h.pc h.regs h.regs h.here es;
          steps = steps_as g r next channel side h.pos (acts_left later) (items_behind later branch.items) j (h.pc + 1) h.regs steps;
          fits = fits_as g r next branch.items stand.footprint h.fits;
          has = has_as g r next branch.items (record { core = step.left g r a h.pc h.regs h.regs h.here es; world = x.state; hand = None }) (has_still h.pc h.regs h.here es h.has);
        },
      )
    where
      -- the cost is that of the runner, whatever its transfer is
      few_as : (l : List Parcel) → steps_left later + j + cost_behind g r l ≤ fewer →
          steps_left later + j + cost_behind g (record r { transfer = Some (owing channel side later late) }) l ≤ fewer
      few_as [] le = le
      few_as (p ∷ ps) le = le

  abbrev at_end : (phase : Phase) (late : List Parcel) → r.transfer ≡ Some (owing channel side phase late) →
      AtEnd thread_at channel side phase late
  at_end phase late its = inside_there thread_at channel side phase late its

  -- an offer that isn't put yet isn't put by END
  later_left : (v : ℕ) (late : List Parcel) (pos : Pos) → LeftTo (owing channel side (sends_end v) late) pos branch.items x.state →
      LeftTo (owing channel side (awaits_ack (offers v)) late) pos branch.items x.state
  later_left v late pos (on_time none goes) = on_time none goes
  later_left v late pos (unput u) = unput (record {
    output = u.output;
    value = u.value;
    rest = u.rest;
    late = u.late;
    phase = phase_then u.phase;
    items_are = u.items_are;
    on_channel = u.on_channel;
    place = u.place;
    ready = u.ready;
  })
    where
      phase_then : (sends_end v ≡ sends_end u.value) ⊎ (sends_end v ≡ awaits_ack (offers u.value)) →
          (awaits_ack (offers v) ≡ sends_end u.value) ⊎ (awaits_ack (offers v) ≡ awaits_ack (offers u.value))
      phase_then (inl e) = let same : v ≡ u.value = cc in inr (ap (λ n. awaits_ack (offers n)) same)
      phase_then (inr e) = let no : ⊥ = cc in absurd no

  -- END of an output
  pub sends_end_followed : (v : ℕ) (late : List Parcel) (its : r.transfer ≡ Some (owing channel side (sends_end v) late)) (j : ℕ) →
      2 + j + cost_behind g r late ≤ stand.left → InTransfer g r (owing channel side (sends_end v) late) branch.items j now →
      Goal branch_at (at_end (sends_end v) late its)
  sends_end_followed v late its j few h =
      let here = at_end (sends_end v) late its in
      let later = awaits_ack (offers v) in
      let at = side_end branch_at here in
      let Then : List ChanEnd → List Sent → Type 0 = λ es sent. Next at (step.left g r a h.pc h.regs h.regs h.here es) sent
      (boxes branch_at here) (side_state later false) late in
      sends_row branch_at here h.pc h.regs h.here h.pos (control_token 1 ∷ []) Then h.steps.0
      (subst (λ l. SendRow at r.thread (running r.tie h.pc h.regs) (control_token 1 ∷ [])
      (SentNext at r.thread (running r.tie h.pc h.regs) (control_token 1 ∷ []) (boxes branch_at here) (side_state later false) l)) here.late_is
      (rows.outct_end at r.thread (running r.tie h.pc h.regs) v false here.stands))
      (goes_row branch_at here h.pc h.regs h.here on (Some (owing channel side later late)) later late (stays_in refl) none_rests
      (λ d u ne. refl) (1 + j + cost_behind g r late) (let same = ap spared its in omega (arith, few, same))
      (later_steps (sends_end v) later late j (1 + j + cost_behind g r late) (omega arith) h (later_left v late h.pos h.left)
      (end_sent g r channel side h.pos (IsBehind g r (all_but_first branch.items) j) h.pc h.regs v h.steps)))

  -- CHKCT END of an input
  pub checks_end_followed : (its : r.transfer ≡ Some (in_phase channel side checks_end)) (j : ℕ) → 2 + j + cost g r ≤ stand.left →
      (h : InTransfer g r (in_phase channel side checks_end) branch.items j now) → GoesWith checks_end channel h.pos branch.items →
      Goal branch_at (at_end checks_end [] its)
  checks_end_followed its j few h goes =
      let here = at_end checks_end [] its in
      ends_row branch_at here h.pc h.regs h.here h.pos sends_ack h.steps.0
      (rows.chkct_end (side_end branch_at here) r.thread (running r.tie h.pc h.regs) false here.stands)
      (goes_row branch_at here h.pc h.regs h.here on (Some (in_phase channel side sends_ack)) sends_ack [] (stays_in refl) none_rests
      (λ d u ne. refl) (1 + j + cost g r) (let same = ap spared its in omega (arith, few, same))
      (later_steps checks_end sends_ack [] j (1 + j + cost g r) (omega arith) h (on_time refl goes)
      (end_taken g r channel side h.pos (IsBehind g r branch.items j) h.pc h.regs h.steps)))

  -- the thread has left its transfer, and is at the code of what is left, or on its way to the store of the word that has come in
  module _ (j : ℕ) (h : InTransfer g r (in_phase channel side sends_ack) branch.items j now) (es : List ChanEnd) where
    abbrev then : ThreadView
    then = record { core = step.left g r a h.pc h.regs h.regs h.here es; world = x.state; hand = None }

    abbrev out : Runner
    out = record r { transfer = None }

    out_here : slice_get then.core.threads r.thread ≡ Some (running r.tie (h.pc + 1) h.regs)
    out_here = gone_on g r a h.pc h.regs h.regs h.here es

    out_behind : IsBehind g r branch.items j (h.pc + 1) h.regs
    out_behind = ack_sent g r channel side h.pos (IsBehind g r branch.items j) h.pc h.regs h.steps

    left_it : ProgressWith g out (rests_alone c t c t) None branch.items (j + cost g r) then
    left_it =
        inr (inr (subst (λ b. IfTrue g out b (IsAtRest g out branch.items (j + cost g r) then)) (sym (rests_there c t)) (
          j,
          omega arith,
          refl,
          rest_as g r None branch.items j then stand.footprint (record {
            pc = h.pc + 1;
            regs = h.regs;
            here = here_at branch.items out_behind.1 out_here;
            bases = out_behind.0;
            stands = out_behind.2 then.core;
            fits = h.fits;
            has = has_still h.pc h.regs h.here es h.has;
          }),
        )))

  -- ACK of an input
  pub sends_ack_followed : (its : r.transfer ≡ Some (in_phase channel side sends_ack)) (j : ℕ) → 1 + j + cost g r ≤ stand.left →
      InTransfer g r (in_phase channel side sends_ack) branch.items j now → Goal branch_at (at_end sends_ack [] its)
  sends_ack_followed its j few h =
      let here = at_end sends_ack [] its in
      let Then : List ChanEnd → List Sent → Type 0 = λ es sent. Next (side_end branch_at here)
      (step.left g r a h.pc h.regs h.regs h.here es) sent (boxes branch_at here) (side_state between false) [] in
      sends_row branch_at here h.pc h.regs h.here h.pos (control_token 3 ∷ []) Then h.steps.0
      (rows.outct_ack (side_end branch_at here) r.thread (running r.tie h.pc h.regs) false here.stands)
      (goes_row branch_at here h.pc h.regs h.here on None between [] (goes_out refl refl refl) (rests_alone c t)
      (λ d u ne. alone_elsewhere c (nat_eq u t) d ne)
      (j + cost g r) (let same = ap spared its in omega (arith, few, same)) (left_it j h))
