-- What the instructions do that set a port or a timer, which is there and which r11 names, by the word in r0.
use Rattle.std.proofs.Common.{◌≡◌, ℕ, ◌+◌, ◌%◌, ◌^◌, true, List, Some, None, refl, ap, ◌∙◌}
use Rattle.std.specs.Prelude.{slice_get, slice_set}
use Rattle.xs_instr.specs.declared.image.Home.{Home}
use Rattle.xs_instr.specs.declared.instr.Cond.{Cond}
use Rattle.xs_instr.specs.declared.instr.Instr.TheVariants.{Setc, Setd, Setpt}
use Rattle.xs_instr.specs.declared.instr.Reg.TheVariants.{R0, R11}
use Rattle.xs_instr.specs.declared.state.CoreState.{CoreState}
use Rattle.xs_instr.specs.declared.state.Port.{Port}
use Rattle.xs_instr.specs.declared.state.Regs.{Regs}
use Rattle.xs_instr.specs.declared.state.Thread.{Thread}
use Rattle.xs_instr.specs.declared.state.Timer.{Timer}
use Rattle.xs_instr.specs.Did.{makes, map_did}
use Rattle.xs_instr.specs.Ports.{is_port_cond, port_cond_by, port_cond_set, port_data_set, port_time_set}
use Rattle.xs_instr.specs.Resources.{APort, ATimer, named, on_port, usable}
use Rattle.xs_instr.specs.Rows.{cond_row, data_row, goes_with, put_ports, put_timers, row}
use Rattle.xs_instr.specs.Timers.{is_timer_cond, timer_cond_by, timer_cond_set, timer_data_set}
use Rattle.xl_expr.specs.ResourceParts.{OtherPartsStay, port_alone, timer_alone}
use Rattle.xl_expr.proofs.Lists.{get_set_other}
use Rattle.xl_expr.proofs.ResourceParts.{others_of_port, others_of_timer}
use Rattle.xl_expr.proofs.Ways.{at_pc}
use Rattle.xl_select.proofs.Moves.{behind, Left}

-- steps that change ports alone, and timers alone

abbrev pub ports_left : CoreState → List Port → Left
ports_left c ports = record { ports = ports; timers = c.timers; events = c.events; words = c.words }

abbrev pub timers_left : CoreState → List Timer → Left
timers_left c timers = record { ports = c.ports; timers = timers; events = c.events; words = c.words }

module _ (home : Home) (t : ℕ) (thread : Thread) (pc : ℕ) (regs : Regs) (c : CoreState) where
  abbrev th : Thread
  th = at_pc thread pc regs

  module _ (p : ℕ) (port : Port) (there : slice_get c.ports p ≡ Some port) (names : named home.number regs.r11 ≡ APort p) where
    abbrev With_port : Port → CoreState
    With_port port' = behind c t th (pc + 1) regs (ports_left c (slice_set c.ports p port'))

    pub port_setc_row : (cond : Cond) → is_port_cond cond ≡ true → row home c t th (Setc R11 cond) ≡ makes (With_port (record port { cond = cond; latch = None; time = None }))
    port_setc_row cond ok =
        ap (cond_row c t th cond) names
        ∙ ap (λ x. map_did (goes_with put_ports c t th) (usable (port_cond_set cond c.ports p) x)) there
        ∙ ap (λ b. map_did (goes_with put_ports c t th) (port_cond_by cond c.ports p port b)) ok

    pub port_setpt_row : row home c t th (Setpt R11 R0) ≡ makes (With_port (record port { time = Some (regs.r0 % 2 ^ 16) }))
    port_setpt_row =
        ap (λ x. map_did (goes_with put_ports c t th) (on_port c (port_time_set regs.r0 c.ports) x)) names
        ∙ ap (λ x. map_did (goes_with put_ports c t th) (usable (port_time_set regs.r0 c.ports p) x)) there

    pub port_setd_row : row home c t th (Setd R11 R0) ≡ makes (With_port (record port { datum = regs.r0 }))
    port_setd_row =
        ap (data_row c t th regs.r0) names
        ∙ ap (λ x. map_did (goes_with put_ports c t th) (usable (port_data_set regs.r0 c.ports p) x)) there

    pub port_leaves : (port' : Port) → OtherPartsStay (port_alone p) t c (With_port port')
    port_leaves port' = others_of_port t p c (With_port port') (λ q ne. get_set_other c.ports p q port' ne) refl refl

  module _ (n : ℕ) (timer : Timer) (there : slice_get c.timers n ≡ Some timer) (names : named home.number regs.r11 ≡ ATimer n) where
    abbrev With_timer : Timer → CoreState
    With_timer timer' = behind c t th (pc + 1) regs (timers_left c (slice_set c.timers n timer'))

    pub timer_setc_row : (cond : Cond) → is_timer_cond cond ≡ true → row home c t th (Setc R11 cond) ≡ makes (With_timer (record timer { cond = cond; latch = None }))
    timer_setc_row cond ok =
        ap (cond_row c t th cond) names
        ∙ ap (λ x. map_did (goes_with put_timers c t th) (usable (timer_cond_set cond c.timers n) x)) there
        ∙ ap (λ b. map_did (goes_with put_timers c t th) (timer_cond_by cond c.timers n timer b)) ok

    pub timer_setd_row : row home c t th (Setd R11 R0) ≡ makes (With_timer (record timer { datum = regs.r0 }))
    timer_setd_row =
        ap (data_row c t th regs.r0) names
        ∙ ap (λ x. map_did (goes_with put_timers c t th) (usable (timer_data_set regs.r0 c.timers n) x)) there

    pub timer_leaves : (timer' : Timer) → OtherPartsStay (timer_alone n) t c (With_timer timer')
    timer_leaves timer' = others_of_timer t n c (With_timer timer') (λ m ne. get_set_other c.timers n m timer' ne) refl refl
