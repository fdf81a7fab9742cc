-- What the instructions of a transfer do on a port that is there and that r11 names.
use Rattle.std.proofs.Common.{◌≡◌, ℕ, ◌+◌, ◌%◌, ◌^◌, Bool, true, false, List, Some, None, refl, ap, ◌∙◌}
use Rattle.std.specs.Prelude.{slice_get, slice_set}
use Rattle.xs_instr.specs.declared.image.Home.{Home}
use Rattle.xs_instr.specs.declared.instr.Cond.{Cond}
use Rattle.xs_instr.specs.declared.instr.Instr.{Instr}
use Rattle.xs_instr.specs.declared.instr.Instr.TheVariants.{Getts, In, Out, Setc, Setd, Setpt}
use Rattle.xs_instr.specs.declared.instr.Reg.TheVariants.{R0, R10, R11}
use Rattle.xs_instr.specs.declared.state.CoreState.{CoreState}
use Rattle.xs_instr.specs.declared.state.Mode.TheVariants.{Running}
use Rattle.xs_instr.specs.declared.state.Port.{Port}
use Rattle.xs_instr.specs.declared.state.Regs.{Regs}
use Rattle.xs_instr.specs.declared.state.Res.TheVariants.{Port as ResPort}
use Rattle.xs_instr.specs.declared.state.Thread.{Thread}
use Rattle.xs_instr.specs.Did.{makes, map_did}
use Rattle.xs_instr.specs.Ports.{can_receive, can_send, counter, drives, drives_by, drives_on, is_port_cond, meets, port_cond_by, port_cond_set, port_data_set, port_stamp, port_time_set, reads, reads_latched, reads_now, reads_on, time_meets}
use Rattle.xs_instr.specs.Registers.{reg_set}
use Rattle.xs_instr.specs.Resources.{APort, named, on_port, usable}
use Rattle.xs_instr.specs.Rows.{cond_row, data_row, gets_with, goes_with, in_row, out_row, put_ports, row}
use Rattle.xs_instr.specs.Slot.{is_waiteu}
use Rattle.xl_expr.specs.ResourceParts.{port_alone}
use Rattle.xl_expr.proofs.Lists.{get_set_other, get_set_same}
use Rattle.xl_expr.proofs.ResourceParts.{others_of_port, others_same, port_same}
use Rattle.xl_expr.proofs.Ways.{at_pc}
use Rattle.xl_port.proofs.Since.{Lasts, Turns, other_r0, behind_step}

-- port p is so
abbrev pub port_is : (p : ℕ) → Port → CoreState → Type 0
port_is p port c = slice_get c.ports p ≡ Some port

pub port_lasts : (relied : ℕ → Bool) (t p : ℕ) (port : Port) → Lasts relied (port_alone p) t (port_is p port)
port_lasts relied t p port = record {
  kept = λ a b k h. port_same a b p (k.resources.parts (ResPort p) refl) ∙ h;
  still = λ a b ports timers h. ap (λ l. slice_get l p) ports ∙ h;
}

module _ (home : Home) (relied : ℕ → Bool) (s t p : ℕ) (thread : Thread) (runs : thread.mode ≡ Running) (quiet : thread.event_bit ≡ false)
    (old : List ℕ) (name : ℕ) (names : named home.number name ≡ APort p) (pc : ℕ) (regs : Regs) (r11_is : regs.r11 ≡ name) where
  abbrev th : Thread
  th = at_pc thread pc regs

  abbrev pub PortTurns : (port port' : Port) → (regs' : Regs) → Instr → Type 0
  PortTurns port port' regs' i = Turns home relied (port_alone p) s t thread runs quiet old (port_is p port) (port_is p port') pc regs regs'
      i

  -- a row that sets the port
  sets : (port port' : Port) (i : Instr) → is_waiteu (Some i) ≡ false →
      ((c : CoreState) → port_is p port c → row home c t th i ≡ makes (goes_with put_ports c t th (slice_set c.ports p port'))) →
      PortTurns port port' regs i
  sets port port' i no_event row_is = record {
    ports = λ c. slice_set c.ports p port';
    timers = λ c. c.timers;
    no_event = no_event;
    left = λ r w. refl;
    row_is = row_is;
    others = λ c. others_of_port t p c (behind_step c t th (pc + 1) regs (slice_set c.ports p port') c.timers)
        (λ q ne. get_set_other c.ports p q port' ne) refl refl;
    after = λ c h. get_set_same c.ports p port port' h;
  }

  pub setc_turns : (cond : Cond) (port : Port) → is_port_cond cond ≡ true →
      PortTurns port (record port { cond = cond; latch = None; time = None }) regs (Setc R11 cond)
  setc_turns cond port ok = sets port (record port { cond = cond; latch = None; time = None }) (Setc R11 cond) refl (λ c there.
      ap (λ n. cond_row c t th cond (named home.number n)) r11_is
      ∙ ap (cond_row c t th cond) names
      ∙ ap (λ x. map_did (goes_with put_ports c t th) (usable (port_cond_set cond c.ports p) x)) there
      ∙ ap (λ b. map_did (goes_with put_ports c t th) (port_cond_by cond c.ports p port b)) ok)

  pub setpt_turns : (port : Port) (time : ℕ) → regs.r10 ≡ time →
      PortTurns port (record port { time = Some (time % 2 ^ 16) }) regs (Setpt R11 R10)
  setpt_turns port time r10_is = sets port (record port { time = Some (time % 2 ^ 16) }) (Setpt R11 R10) refl (λ c there.
      ap (λ n. map_did (goes_with put_ports c t th) (on_port c (port_time_set regs.r10 c.ports) (named home.number n))) r11_is
      ∙ ap (λ x. map_did (goes_with put_ports c t th) (on_port c (port_time_set regs.r10 c.ports) x)) names
      ∙ ap (λ x. map_did (goes_with put_ports c t th) (usable (port_time_set regs.r10 c.ports p) x)) there
      ∙ ap (λ v. map_did (goes_with put_ports c t th) (port_time_set v c.ports p port)) r10_is)

  pub setd_turns : (port : Port) (v : ℕ) → regs.r10 ≡ v → PortTurns port (record port { datum = v }) regs (Setd R11 R10)
  setd_turns port v r10_is = sets port (record port { datum = v }) (Setd R11 R10) refl (λ c there.
      ap (λ n. data_row c t th regs.r10 (named home.number n)) r11_is
      ∙ ap (data_row c t th regs.r10) names
      ∙ ap (λ x. map_did (goes_with put_ports c t th) (usable (port_data_set regs.r10 c.ports p) x)) there
      ∙ ap (λ w. map_did (goes_with put_ports c t th) (port_data_set w c.ports p port)) r10_is)

  -- the counter of the port's last transfer comes to r0
  pub getts_turns : (port : Port) → PortTurns port port (reg_set regs R0 port.stamp) (Getts R0 R11)
  getts_turns port = record {
    ports = λ c. c.ports;
    timers = λ c. c.timers;
    no_event = refl;
    left = λ r w. other_r0 regs port.stamp r w;
    row_is = λ c there.
        ap (λ n. map_did (gets_with put_ports c t th R0) (on_port c (port_stamp c.ports) (named home.number n))) r11_is
        ∙ ap (λ x. map_did (gets_with put_ports c t th R0) (on_port c (port_stamp c.ports) x)) names
        ∙ ap (λ x. map_did (gets_with put_ports c t th R0) (usable (port_stamp c.ports p) x)) there;
    others = λ c. others_same (port_alone p) t c (behind_step c t th (pc + 1) (reg_set regs R0 port.stamp) c.ports c.timers) refl refl refl;
    after = λ c h. h;
  }

  pub out_row_is : (port : Port) (c : CoreState) → port_is p port c → can_send port.decl.dir ≡ true →
      row home c t th (Out R11 R0) ≡ map_did (goes_with put_ports c t th)
      (drives_by home (counter c.clock) regs.r0 c.ports p port (time_meets port.time (counter c.clock)))
  out_row_is port c there sends =
      ap (λ n. out_row home c t th regs.r0 (named home.number n)) r11_is
      ∙ ap (out_row home c t th regs.r0) names
      ∙ ap (λ x. map_did (goes_with put_ports c t th) (usable (drives home c.clock regs.r0 c.ports p) x)) there
      ∙ ap (λ b. map_did (goes_with put_ports c t th) (drives_on home (counter c.clock) regs.r0 c.ports p port b)) sends

  pub in_row_is : (port : Port) (c : CoreState) → port_is p port c → can_receive port.decl.dir ≡ true → port.latch ≡ None →
      row home c t th (In R0 R11) ≡ map_did (gets_with put_ports c t th R0) (reads_now home c.clock c.ports p port (meets home c.clock port))
  in_row_is port c there receives unlatched =
      ap (λ n. in_row home c t th R0 regs.r11 (named home.number n)) r11_is
      ∙ ap (in_row home c t th R0 regs.r11) names
      ∙ ap (λ x. map_did (gets_with put_ports c t th R0) (usable (reads home c.clock c.ports p) x)) there
      ∙ ap (λ b. map_did (gets_with put_ports c t th R0) (reads_on home c.clock c.ports p port b)) receives
      ∙ ap (λ got. map_did (gets_with put_ports c t th R0) (reads_latched home c.clock c.ports p port got)) unlatched
