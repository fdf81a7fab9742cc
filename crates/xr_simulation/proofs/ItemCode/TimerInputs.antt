-- An input from a timer: from its code the thread comes to the instruction that reads the clock, once that is past what it waits for, and
-- waits with its branch till then; behind that the clock is stored, where there is a place for it.
use Rattle.std.proofs.Common.{◌≡◌, ℕ, ◌+◌, ◌++◌, ◌*◌, ◌≤◌, true, false, List, ◌∷◌, length, None, refl, sym, ap, ◌∙◌, subst, arith}
use Rattle.std.specs.Prelude.{slice_set}
use Rattle.std.proofs.lemmas.List.{length-append}
use Rattle.xs_instr.specs.declared.instr.Reg.TheVariants.{R0}
use Rattle.xs_instr.specs.declared.state.CoreState.{CoreState}
use Rattle.xs_instr.specs.declared.state.Regs.{Regs}
use Rattle.xs_instr.specs.declared.state.Res.{Res}
use Rattle.xs_instr.specs.declared.state.Timer.{Timer as TimerState}
use Rattle.xs_instr.specs.OwnSteps.{StandAt}
use Rattle.xs_instr.specs.Registers.{reg_set}
use Rattle.xc_kernel.specs.Conditions.{AsksForTime}
use Rattle.xc_kernel.specs.declared.statement.KRes.TheVariants.{Timer}
use Rattle.xc_kernel.specs.Plain as kernel
use Rattle.xc_meaning.specs.Runs.{does_item}
use Rattle.xc_meaning.specs.Settings.Setting as source
use Rattle.xc_meaning.specs.Settings.Time.{Timing, clock_of, fails, passes, timer_may_pass, timing, with_timing}
use Rattle.xc_meaning.specs.Settings.Transfers.{inputs_from, reads_clock}
use Rattle.xc_meaning.specs.States.Items.{Item, When, does, storing}
use Rattle.xc_meaning.specs.States.Worlds.{only_if}
use Rattle.xl_expr.specs.PartSteps.{KeptParts}
use Rattle.xl_expr.specs.ResourceParts.{timer_alone}
use Rattle.xl_expr.proofs.Lists.{stand_back, stand_front}
use Rattle.xl_expr.proofs.Runs.{r0_alone}
use Rattle.xl_port.specs.Inputs.{waiting_nodes}
use Rattle.xl_port.specs.TimerInputs.{ClockOutcome, ReadsClock, TimerInputs, is_past}
use Rattle.xl_port.specs.Timings.{timer_set, timing_expression}
use Rattle.xl_statements.specs.Pieces.{Exit, LinesAt}
use Rattle.xr_simulation.specs.Fits.{AsksRightly, Fits, IsReadTimer, ItemsFit}
use Rattle.xr_simulation.specs.Runners.{Setting, Runner, IsLaidOut, code, home, plan, relied, timer_place}
use Rattle.xr_simulation.specs.ThreadViews.{ThreadView, running}
use Rattle.xr_simulation.specs.NextStep as turn
use Rattle.xr_simulation.specs.NextStep.{Goes, Has, HasBases, IsAt, IsSized, ItemsFrom, Leads, IsPlacedAt, TimerIs, NextStep, cost}
use Rattle.xr_simulation.proofs.Image.Bases.{bases_scratched, bases_worked}
use Rattle.xr_simulation.proofs.Image.Identifiers.{timer_there}
use Rattle.xr_simulation.proofs.ItemCode.Items.{storing_fits}
use Rattle.xr_simulation.proofs.ItemCode.OnResources.{storing_stands, storing_unwatched, timer_stands}
use Rattle.xr_simulation.proofs.ItemCode.ResourceTurns.{AtTransfer, Passes, both_err, same_clock, same_core, setting, timer_moves, transfer_leads, transfer_turn}
use Rattle.xr_simulation.proofs.ItemCode.Timings.{time_laid, timer_agrees, timing_still, timing_uses, waiting_costs}
use Rattle.xr_simulation.proofs.RelyGuarantee.Arrival.{timer_alone_mine}
use Rattle.xr_simulation.proofs.RelyGuarantee.Events.{items_unwatched}
use Rattle.xr_simulation.proofs.RelyGuarantee.Layouts.{room_of, runs_at}
use Rattle.xr_simulation.proofs.RelyGuarantee.Stands.{items_stand}

-- The code of an input from timer t of the kernel.
module _ (g : Setting) (r : Runner) (laid : IsLaidOut g r) (i : kernel.Input) (t : ℕ) (from_timer : i.resource ≡ Timer t)
    (read : IsReadTimer g r t) (fits : Fits g r (kernel.input i)) (rest : List Item) (exits : List Exit) (pc pc' j : ℕ)
    (lines : LinesAt (code g r) (TimerInputs (plan g r) i) pc pc') (behind : ItemsFrom g r rest exits pc' j)
    (rest_fits : ItemsFit g r rest) (z : ThreadView) (regs : Regs) (bases : HasBases g r regs)
    (has : Has g r (does (kernel.input i) ∷ rest) z) (sized : IsSized g r z) where
  abbrev place : ℕ
  place = timer_place g r t

  abbrev mine : Res → Type 0
  mine = timer_alone place

  abbrev its : TimerIs g r t z
  its = timer_there g r laid z t read.listed read.is sized

  abbrev timer : TimerState
  timer = its.timer

  -- its lines, and where those begin that write

  abbrev parts : TimerInputs (plan g r) i pc lines.lines
  parts = lines.so

  abbrev at_write : ℕ
  at_write = pc + length parts.transfer

  all_stand : StandAt (code g r) pc (parts.transfer ++ parts.write)
  all_stand = subst (StandAt (code g r) pc) parts.is lines.stand

  write_end : pc' ≡ at_write + length parts.write
  write_end =
      let a = lines.end in
      let b = ap length parts.is in
      let c = length-append parts.transfer parts.write in
      omega (arith, a, b, c)

  unwatched : turn.is_watching rest ≡ false
  unwatched = items_unwatched g r rest exits pc' j behind

  -- where the clock is in r0, the thread stands where it is stored
  left_stands : (v : ℕ) (last : Regs) (core : CoreState) → HasBases g r last → last.r0 ≡ v →
      IsPlacedAt g r (storing i.target v rest) j at_write last core
  left_stands v last core bases' in_r0 =
      storing_stands g r rest at_write j parts.write (stand_back (code g r) pc parts.transfer parts.write all_stand) core unwatched
      (λ later other bases_then same.
      subst (λ q. IsPlacedAt g r rest j q later other) write_end (items_stand g r rest exits pc' j later other behind))
      i.target parts.writes v last bases' in_r0

  -- At the end of its way.
  module _ (q : ThreadView) (at : AtTransfer g r mine (does (kernel.input i)) rest z q) where
    abbrev s : source.Setting
    s = setting g r at

    abbrev clock : ℕ
    clock = q.core.clock

    -- the branch's step, by what it waits for
    step_is : (w : Timing) → timing z.world.store i.time i.condition ≡ w →
        does_item s (does (kernel.input i)) ≡ with_timing s w (λ when. only_if (timer_may_pass s when) (reads_clock s i (clock_of s)))
    step_is w e =
        ap (inputs_from s i) from_timer
        ∙ ap (λ d. with_timing s d (λ when. only_if (timer_may_pass s when) (reads_clock s i (clock_of s))))
        (timing_still g r z.world.store q.world.store at.since.store i.time i.condition fits.0.time fits.0.condition ∙ e)

    -- the thread is at the instruction that reads the clock
    module _ (when : When) (e : timing z.world.store i.time i.condition ≡ passes when)
        (w : ReadsClock (home g r) (relied g r) r.stack r.thread (running r.tie pc regs) z.core.words place timer i.pos at_write when
        q.core) where
      abbrev set : TimerState
      set = timer_set when timer

      agrees : is_past q.core set ≡ timer_may_pass s when
      agrees = timer_agrees (home g r) clock s (same_clock g r at) (same_core g r at) refl when timer

      reads_it : is_past q.core set ≡ true → Passes g r j q (storing i.target clock rest) None
      reads_it h = record {
        pc = at_write;
        regs = last;
        ports = q.core.ports;
        timers = slice_set q.core.timers place set;
        moves = timer_moves g r t read.listed read.is q w.index at_write w.regs last set w.here (w.goes h);
        bases = bases';
        unwatched = storing_unwatched g r i.target clock rest unwatched;
        stands = left_stands clock last _ bases' refl;
        fits = let counted = fits.1 in storing_fits g r i.target clock rest fits.0.target (omega (arith, counted)) rest_fits;
      }
        where
          last : Regs
          last = reg_set w.regs R0 clock

          bases' : HasBases g r last
          bases' = bases_scratched g r w.regs last (r0_alone w.regs clock) (bases_worked g r regs w.regs w.others bases)

      clock_turn : NextStep g r j q
      clock_turn =
          transfer_turn g r at j (is_past q.core set) (storing i.target clock rest) None
          (step_is (passes when) e ∙ ap (λ b. only_if b (reads_clock s i (clock_of s))) (sym agrees)
          ∙ ap (λ c. only_if (is_past q.core set) (reads_clock s i c)) (same_clock g r at))
          w.waits reads_it

  abbrev outcome : Timing → CoreState → Type 0
  outcome w b =
      ClockOutcome (home g r) (relied g r) r.stack r.thread (running r.tie pc regs) z.core.words place timer i.pos at_write w b

  -- where the code leads, the turn is next
  turns : (w : Timing) → timing z.world.store i.time i.condition ≡ w → (y q : ThreadView) → outcome w y.core →
      KeptParts (relied g r) mine r.thread y.core q.core → AtTransfer g r mine (does (kernel.input i)) rest z q → NextStep g r j q
  turns (passes when) e y q h kept at = clock_turn q at when e (h q.core kept)
  turns (fails kind pos) e y q h kept at = turn.errs (both_err g r at kind pos (h q.core kept) (step_is q at (fails kind pos) e))

  clock_leads : IsAt g r z pc regs → z.hand ≡ None → i.time ≡ None → AsksForTime i.condition → Leads g r (cost g r) j z
  clock_leads here no_hand no_time asks =
      let w = timing z.world.store i.time i.condition in
      let most = 8 * waiting_nodes i + 4 in
      let few : most ≤ cost g r = let a = waiting_costs i.time i.condition in let b = fits.1 in omega (arith, a, b) in
      let uses = timing_uses g r i.time i.condition fits.0.time fits.0.condition in
      transfer_leads g r mine (timer_alone_mine g r t read.listed read.is) (outcome w) most j z pc regs few here
      (parts.reads.by (home g r) (relied g r) r.stack r.thread place timer (running r.tie pc regs) z.world.store z.core
      (stand_front (code g r) pc parts.transfer parts.write all_stand) (runs_at g r z pc regs here)
      (room_of g r laid z regs bases has.holds) (time_laid g r laid z regs (timing_expression i.time i.condition) uses bases has.holds)
      no_time asks (timer_stands g r laid z regs i.resource t read.listed timer from_timer read.is its.there bases))
      laid (does (kernel.input i)) rest has no_hand (turns w refl)

-- from its code to that instruction
pub timer_input_leads : (g : Setting) (r : Runner) (i : kernel.Input) (t : ℕ) → i.resource ≡ Timer t → IsReadTimer g r t →
    (rest : List Item) (exits : List Exit) (pc pc' j : ℕ) (z : ThreadView) (regs : Regs) →
    IsLaidOut g r → LinesAt (code g r) (TimerInputs (plan g r) i) pc pc' → Fits g r (kernel.input i) →
    ItemsFrom g r rest exits pc' j → ItemsFit g r rest →
    Has g r (does (kernel.input i) ∷ rest) z → IsSized g r z → IsAt g r z pc regs → HasBases g r regs → z.hand ≡ None →
    Leads g r (cost g r) j z
timer_input_leads g r i t from_timer read rest exits pc pc' j z regs laid lines fits behind rest_fits has sized here bases no_hand =
    let asks = subst (λ res. AsksRightly g r res i.time i.condition) from_timer fits.0.asks in
    clock_leads g r laid i t from_timer read fits rest exits pc pc' j lines behind rest_fits z regs bases has sized here no_hand
    asks.0 asks.1
