-- What the instructions of an input do on a timer that is there and that r11 names.
use Rattle.std.proofs.Common.{◌≡◌, ℕ, ◌+◌, Bool, true, false, List, Some, None, refl, ap, ◌∙◌}
use Rattle.std.specs.Prelude.{slice_get, slice_set}
use Rattle.xs_instr.specs.declared.image.Home.{Home}
use Rattle.xs_instr.specs.declared.instr.Cond.{Cond}
use Rattle.xs_instr.specs.declared.instr.Instr.{Instr}
use Rattle.xs_instr.specs.declared.instr.Instr.TheVariants.{In, Setc, Setd}
use Rattle.xs_instr.specs.declared.instr.Reg.TheVariants.{R0, R10, R11}
use Rattle.xs_instr.specs.declared.state.CoreState.{CoreState}
use Rattle.xs_instr.specs.declared.state.Mode.TheVariants.{Running}
use Rattle.xs_instr.specs.declared.state.Regs.{Regs}
use Rattle.xs_instr.specs.declared.state.Res.TheVariants.{Timer as ResTimer}
use Rattle.xs_instr.specs.declared.state.Thread.{Thread}
use Rattle.xs_instr.specs.declared.state.Timer.{Timer}
use Rattle.xs_instr.specs.Did.{makes, map_did}
use Rattle.xs_instr.specs.Resources.{ATimer, named, usable}
use Rattle.xs_instr.specs.Rows.{cond_row, data_row, gets_with, goes_with, in_row, put_timers, row}
use Rattle.xs_instr.specs.Timers.{clock_by, clock_latched, clock_read, is_timer_cond, timer_cond_by, timer_cond_set, timer_data_set, timer_meets}
use Rattle.xs_instr.specs.Slot.{is_waiteu}
use Rattle.xl_expr.specs.ResourceParts.{timer_alone}
use Rattle.xl_expr.proofs.Lists.{get_set_other, get_set_same}
use Rattle.xl_expr.proofs.ResourceParts.{others_of_timer, timer_same}
use Rattle.xl_expr.proofs.Ways.{at_pc}
use Rattle.xl_port.proofs.Since.{Lasts, Turns, behind_step}

-- timer n is so
abbrev pub timer_is : (n : ℕ) → Timer → CoreState → Type 0
timer_is n timer c = slice_get c.timers n ≡ Some timer

pub timer_lasts : (relied : ℕ → Bool) (t n : ℕ) (timer : Timer) → Lasts relied (timer_alone n) t (timer_is n timer)
timer_lasts relied t n timer = record {
  kept = λ a b k h. timer_same a b n (k.resources.parts (ResTimer n) refl) ∙ h;
  still = λ a b ports timers h. ap (λ l. slice_get l n) timers ∙ h;
}

module _ (home : Home) (relied : ℕ → Bool) (s t n : ℕ) (thread : Thread) (runs : thread.mode ≡ Running) (quiet : thread.event_bit ≡ false)
    (old : List ℕ) (name : ℕ) (names : named home.number name ≡ ATimer n) (pc : ℕ) (regs : Regs) (r11_is : regs.r11 ≡ name) where
  abbrev th : Thread
  th = at_pc thread pc regs

  -- a row that sets the timer
  abbrev pub TimerTurns : (timer timer' : Timer) → Instr → Type 0
  TimerTurns timer timer' i = Turns home relied (timer_alone n) s t thread runs quiet old (timer_is n timer) (timer_is n timer') pc regs
      regs i

  sets : (timer timer' : Timer) (i : Instr) → is_waiteu (Some i) ≡ false →
      ((c : CoreState) → timer_is n timer c → row home c t th i ≡ makes (goes_with put_timers c t th (slice_set c.timers n timer'))) →
      TimerTurns timer timer' i
  sets timer timer' i no_event row_is = record {
    ports = λ c. c.ports;
    timers = λ c. slice_set c.timers n timer';
    no_event = no_event;
    left = λ r w. refl;
    row_is = row_is;
    others = λ c. others_of_timer t n c (behind_step c t th (pc + 1) regs c.ports (slice_set c.timers n timer'))
        (λ m ne. get_set_other c.timers n m timer' ne) refl refl;
    after = λ c h. get_set_same c.timers n timer timer' h;
  }

  pub setc_turns : (cond : Cond) (timer : Timer) → is_timer_cond cond ≡ true →
      TimerTurns timer (record timer { cond = cond; latch = None }) (Setc R11 cond)
  setc_turns cond timer ok = sets timer (record timer { cond = cond; latch = None }) (Setc R11 cond) refl (λ c there.
      ap (λ m. cond_row c t th cond (named home.number m)) r11_is
      ∙ ap (cond_row c t th cond) names
      ∙ ap (λ x. map_did (goes_with put_timers c t th) (usable (timer_cond_set cond c.timers n) x)) there
      ∙ ap (λ b. map_did (goes_with put_timers c t th) (timer_cond_by cond c.timers n timer b)) ok)

  pub setd_turns : (timer : Timer) (time : ℕ) → regs.r10 ≡ time → TimerTurns timer (record timer { datum = time }) (Setd R11 R10)
  setd_turns timer time r10_is = sets timer (record timer { datum = time }) (Setd R11 R10) refl (λ c there.
      ap (λ m. data_row c t th regs.r10 (named home.number m)) r11_is
      ∙ ap (data_row c t th regs.r10) names
      ∙ ap (λ x. map_did (goes_with put_timers c t th) (usable (timer_data_set regs.r10 c.timers n) x)) there
      ∙ ap (λ v. map_did (goes_with put_timers c t th) (timer_data_set v c.timers n timer)) r10_is)

  pub in_row_is : (timer : Timer) (c : CoreState) → timer_is n timer c → timer.latch ≡ None →
      row home c t th (In R0 R11) ≡ map_did (gets_with put_timers c t th R0)
      (clock_by c.clock c.timers n timer (timer_meets timer.cond c.clock timer.datum))
  in_row_is timer c there unlatched =
      ap (λ m. in_row home c t th R0 regs.r11 (named home.number m)) r11_is
      ∙ ap (in_row home c t th R0 regs.r11) names
      ∙ ap (λ x. map_did (gets_with put_timers c t th R0) (usable (clock_read c.clock c.timers n) x)) there
      ∙ ap (λ got. map_did (gets_with put_timers c t th R0) (clock_latched c.clock c.timers n timer got)) unlatched
