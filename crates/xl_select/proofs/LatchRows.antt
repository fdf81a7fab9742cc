-- What IN does on a port or timer that has a latch and that r11 names.
use Rattle.std.proofs.Common.{◌≡◌, ℕ, ◌+◌, true, [], Some, ap, ◌∙◌}
use Rattle.std.specs.Prelude.{slice_get}
use Rattle.xs_instr.specs.declared.image.Home.{Home}
use Rattle.xs_instr.specs.declared.instr.Instr.TheVariants.{In}
use Rattle.xs_instr.specs.declared.instr.Reg.TheVariants.{R0, R11}
use Rattle.xs_instr.specs.declared.state.CoreState.{CoreState}
use Rattle.xs_instr.specs.declared.state.Port.{Port}
use Rattle.xs_instr.specs.declared.state.PortGot.{PortGot}
use Rattle.xs_instr.specs.declared.state.Regs.{Regs}
use Rattle.xs_instr.specs.declared.state.Thread.{Thread}
use Rattle.xs_instr.specs.declared.state.Timer.{Timer}
use Rattle.xs_instr.specs.Did.{Made, makes, map_did}
use Rattle.xs_instr.specs.Ports.{can_receive, reads, reads_latched, reads_on}
use Rattle.xs_instr.specs.Resources.{APort, ATimer, named, usable}
use Rattle.xs_instr.specs.Rows.{gets_with, in_row, put_ports, put_timers, row}
use Rattle.xs_instr.specs.Timers.{clock_latched, clock_read}
use Rattle.xl_expr.proofs.Ways.{at_pc}
use Rattle.xl_select.specs.Entry.{latch_record, port_latch_read, timer_latch_read}

module _ (home : Home) (t : ℕ) (thread : Thread) (name index : ℕ) (regs : Regs) (r11_is : regs.r11 ≡ name) where
  abbrev th : Thread
  th = at_pc thread index regs

  pub port_in_row : (p : ℕ) → named home.number name ≡ APort p → (port : Port) (got : PortGot) (c : CoreState) →
      slice_get c.ports p ≡ Some port → can_receive port.decl.dir ≡ true → port.latch ≡ Some got →
      row home c t th (In R0 R11)
      ≡ Made (port_latch_read c t p (at_pc thread (index + 1) regs) port got) (Some (latch_record home port got)) []
  port_in_row p names port got c there receives latched =
      ap (λ n. in_row home c t th R0 regs.r11 (named home.number n)) r11_is
      ∙ ap (in_row home c t th R0 regs.r11) names
      ∙ ap (λ x. map_did (gets_with put_ports c t th R0) (usable (reads home c.clock c.ports p) x)) there
      ∙ ap (λ b. map_did (gets_with put_ports c t th R0) (reads_on home c.clock c.ports p port b)) receives
      ∙ ap (λ held. map_did (gets_with put_ports c t th R0) (reads_latched home c.clock c.ports p port held)) latched

  pub timer_in_row : (n : ℕ) → named home.number name ≡ ATimer n → (timer : Timer) (clock : ℕ) (c : CoreState) →
      slice_get c.timers n ≡ Some timer → timer.latch ≡ Some clock →
      row home c t th (In R0 R11) ≡ makes (timer_latch_read c t n (at_pc thread (index + 1) regs) timer clock)
  timer_in_row n names timer clock c there latched =
      ap (λ m. in_row home c t th R0 regs.r11 (named home.number m)) r11_is
      ∙ ap (in_row home c t th R0 regs.r11) names
      ∙ ap (λ x. map_did (gets_with put_timers c t th R0) (usable (clock_read c.clock c.timers n) x)) there
      ∙ ap (λ held. map_did (gets_with put_timers c t th R0) (clock_latched c.clock c.timers n timer held)) latched
