-- The input of a timer's case that was taken: from the case's code the thread comes to the instruction that reads the clock which the timer
-- has latched, and which the program has fixed; behind that it is stored, where there is a place for it.
use Rattle.std.proofs.Common.{◌≡◌, ℕ, ◌+◌, ◌++◌, false, List, ◌∷◌, length, Some, None, refl, ap, subst, arith}
use Rattle.std.specs.Prelude.{slice_get, slice_set}
use Rattle.std.proofs.lemmas.List.{length-append}
use Rattle.xs_instr.specs.declared.instr.Reg.TheVariants.{R0}
use Rattle.xs_instr.specs.declared.state.CoreState.{CoreState}
use Rattle.xs_instr.specs.declared.state.Regs.{Regs}
use Rattle.xs_instr.specs.declared.state.Res.{Res}
use Rattle.xs_instr.specs.declared.state.Timer.{Timer as TimerState}
use Rattle.xs_instr.specs.OwnSteps.{StandAt}
use Rattle.xs_instr.specs.Registers.{reg_set}
use Rattle.xc_kernel.specs.declared.statement.KRes.TheVariants.{Timer}
use Rattle.xc_kernel.specs.Plain as kernel
use Rattle.xc_meaning.specs.Runs.{does_item}
use Rattle.xc_meaning.specs.Settings.Transfers.{inputs_fixed}
use Rattle.xc_meaning.specs.States.Items.{Item, fixed, storing}
use Rattle.xl_expr.specs.PartSteps.{KeptParts}
use Rattle.xl_expr.specs.ResourceParts.{timer_alone}
use Rattle.xl_expr.proofs.Lists.{stand_back, stand_front}
use Rattle.xl_expr.proofs.Runs.{r0_alone}
use Rattle.xl_select.specs.Entry.{AtTimerLatch, EntersTimerCase}
use Rattle.xl_statements.specs.Pieces.{Exit, LinesAt}
use Rattle.xr_simulation.specs.Fits.{CountedInputFits, IsReadTimer, ItemsFit}
use Rattle.xr_simulation.specs.Runners.{Setting, Runner, IsLaidOut, code, home, plan, relied, timer_place}
use Rattle.xr_simulation.specs.ThreadViews.{ThreadView, running}
use Rattle.xr_simulation.specs.NextStep.{Has, HasBases, IsAt, IsPlacedAt, ItemsFrom, Leads, NextStep, cost, is_watching}
use Rattle.xr_simulation.proofs.Image.Bases.{bases_scratched, bases_worked}
use Rattle.xr_simulation.proofs.ItemCode.Items.{storing_fits}
use Rattle.xr_simulation.proofs.ItemCode.OnResources.{storing_stands, storing_unwatched, timer_stands}
use Rattle.xr_simulation.proofs.ItemCode.ResourceTurns.{AtTransfer, Passes, passed, setting, timer_moves, transfer_leads, transfer_passes}
use Rattle.xr_simulation.proofs.RelyGuarantee.Arrival.{timer_alone_mine}
use Rattle.xr_simulation.proofs.RelyGuarantee.Events.{items_unwatched}
use Rattle.xr_simulation.proofs.RelyGuarantee.Layouts.{room_of, runs_at}
use Rattle.xr_simulation.proofs.RelyGuarantee.Stands.{items_stand}

-- The code of the case of an input from timer t of the kernel, which has latched a clock.
module _ (g : Setting) (r : Runner) (laid : IsLaidOut g r) (i : kernel.Input) (t : ℕ) (from_timer : i.resource ≡ Timer t)
    (read : IsReadTimer g r t) (fits : CountedInputFits g r i) (rest : List Item) (exits : List Exit) (pc pc' j : ℕ)
    (lines : LinesAt (code g r) (EntersTimerCase (plan g r) i) pc pc') (behind : ItemsFrom g r rest exits pc' j)
    (rest_fits : ItemsFit g r rest) (v counter : ℕ) (z : ThreadView) (regs : Regs) (bases : HasBases g r regs)
    (has : Has g r (fixed i v counter ∷ rest) z) (timer : TimerState)
    (there : slice_get z.core.timers (timer_place g r t) ≡ Some timer) (latch : timer.latch ≡ Some v) where
  abbrev place : ℕ
  place = timer_place g r t

  abbrev mine : Res → Type 0
  mine = timer_alone place

  abbrev parts : EntersTimerCase (plan g r) i pc lines.lines
  parts = lines.so

  abbrev at_write : ℕ
  at_write = pc + length parts.transfer

  all_stand : StandAt (code g r) pc (parts.transfer ++ parts.write)
  all_stand = subst (StandAt (code g r) pc) parts.is lines.stand

  write_end : pc' ≡ at_write + length parts.write
  write_end =
      let a = lines.end in
      let b = ap length parts.is in
      let c = length-append parts.transfer parts.write in
      omega (arith, a, b, c)

  abbrev all_left : List Item
  all_left = storing i.target v rest

  unwatched : is_watching rest ≡ false
  unwatched = items_unwatched g r rest exits pc' j behind

  -- where the clock is in r0, the thread stands where it is stored
  left_stands : (last : Regs) (core : CoreState) → HasBases g r last → last.r0 ≡ v → IsPlacedAt g r all_left j at_write last core
  left_stands last core bases' in_r0 =
      storing_stands g r rest at_write j parts.write (stand_back (code g r) pc parts.transfer parts.write all_stand) core unwatched
      (λ later other bases_then same.
      subst (λ q. IsPlacedAt g r rest j q later other) write_end (items_stand g r rest exits pc' j later other behind))
      i.target parts.writes v last bases' in_r0

  abbrev outcome : CoreState → Type 0
  outcome c =
      AtTimerLatch (home g r) (relied g r) r.stack r.thread (running r.tie pc regs) z.core.words place timer v i.pos at_write c

  -- At the end of its way the thread is at the instruction that reads the latch.
  module _ (q : ThreadView) (at : AtTransfer g r mine (fixed i v counter) rest z q) (w : outcome q.core) where
    step_is : does_item (setting g r at) (fixed i v counter) ≡ Some (passed g r at all_left None)
    step_is = ap (inputs_fixed (setting g r at) i v counter) from_timer

    abbrev moved : TimerState
    moved = record timer { latch = None }

    abbrev last : Regs
    last = reg_set w.regs R0 v

    reads_it : Passes g r j q all_left None
    reads_it = record {
      pc = at_write;
      regs = last;
      ports = q.core.ports;
      timers = slice_set q.core.timers place moved;
      moves = timer_moves g r t read.listed read.is q w.index at_write w.regs last moved w.here w.goes;
      bases = bases';
      unwatched = storing_unwatched g r i.target v rest unwatched;
      stands = left_stands last _ bases' refl;
      fits = let counted = fits.1 in storing_fits g r i.target v rest fits.0.target (omega (arith, counted)) rest_fits;
    }
      where
        bases' : HasBases g r last
        bases' = bases_scratched g r w.regs last (r0_alone w.regs v) (bases_worked g r regs w.regs w.others bases)

    latch_turn : NextStep g r j q
    latch_turn = transfer_passes g r at j all_left None step_is reads_it

  latch_leads : IsAt g r z pc regs → z.hand ≡ None → Leads g r (cost g r) j z
  latch_leads here no_hand =
      transfer_leads g r mine (timer_alone_mine g r t read.listed read.is)
      (λ b. (c : CoreState) → KeptParts (relied g r) mine r.thread b c → outcome c) 2 j z pc regs (omega arith) here
      (parts.reads.by (home g r) (relied g r) r.stack r.thread place timer v (running r.tie pc regs) z.core
      (stand_front (code g r) pc parts.transfer parts.write all_stand) (runs_at g r z pc regs here)
      (room_of g r laid z regs bases has.holds) (timer_stands g r laid z regs i.resource t read.listed timer from_timer read.is there bases)
      latch)
      laid (fixed i v counter) rest has no_hand (λ y q h kept at. latch_turn q at (h q.core kept))

-- from the case's code to that instruction
pub fixed_timer_leads : (g : Setting) (r : Runner) (i : kernel.Input) (t : ℕ) → i.resource ≡ Timer t → IsReadTimer g r t →
    (rest : List Item) (exits : List Exit) (pc pc' j v counter : ℕ) (z : ThreadView) (regs : Regs) →
    IsLaidOut g r → LinesAt (code g r) (EntersTimerCase (plan g r) i) pc pc' → CountedInputFits g r i →
    ItemsFrom g r rest exits pc' j → ItemsFit g r rest → Has g r (fixed i v counter ∷ rest) z → (timer : TimerState) →
    slice_get z.core.timers (timer_place g r t) ≡ Some timer → timer.latch ≡ Some v →
    IsAt g r z pc regs → HasBases g r regs → z.hand ≡ None → Leads g r (cost g r) j z
fixed_timer_leads g r i t from_timer read rest exits pc pc' j v counter z regs laid lines fits behind rest_fits has timer there latch here
    bases no_hand =
    latch_leads g r laid i t from_timer read fits rest exits pc pc' j lines behind rest_fits v counter z regs bases has timer there latch
    here no_hand
