-- The input of a case that was taken: what is latched is read as the program does what it has fixed.
use Rattle.std.proofs.Common.{◌≡◌, ℕ, true, [], Some, None, refl, ap, ◌∙◌}
use Rattle.xs_instr.specs.declared.image.Home.{Home}
use Rattle.xs_instr.specs.declared.state.Port.{Port as PortState}
use Rattle.xs_instr.specs.declared.state.Timer.{Timer as TimerState}
use Rattle.xs_instr.specs.declared.trace.Record.TheVariants.{PortIn}
use Rattle.xs_instr.specs.Did.{Made}
use Rattle.xs_instr.specs.Ports.{can_receive, given_port, reads_latched, reads_on}
use Rattle.xs_instr.specs.Timers.{clock_latched}
use Rattle.xc_kernel.specs.Plain as kernel
use Rattle.xc_meaning.specs.Settings.Setting.{Setting}
use Rattle.xc_meaning.specs.Settings.Time.{identifier_of}
use Rattle.xr_events.specs.Latches.{PortReadsFixed, TimerReadsFixed, fixed_record}

-- the record of a port's input is the program's
pub record_agrees : (home : Home) (s : Setting) → home.number ≡ s.branch.core → (p id : ℕ) → id ≡ identifier_of s p → (v counter : ℕ) → PortIn home.number id counter v ≡ fixed_record s p v counter
record_agrees home s number p id is v counter =
    ap (λ (k : ℕ). PortIn k id counter v) number ∙ ap (λ (k : ℕ). PortIn s.branch.core k counter v) is

pub port_reads : (home : Home) (s : Setting) → home.number ≡ s.branch.core → (i : kernel.Input) (p : ℕ) (port : PortState) → port.decl.port ≡ identifier_of s p → can_receive port.decl.dir ≡ true → (v counter : ℕ) → port.latch ≡ Some (record { value = v; stamp = counter }) → PortReadsFixed home s i p port v counter
port_reads home s number i p port id receives v counter latch = record {
  machine = λ clock ports n.
      ap (reads_on home clock ports n port) receives
      ∙ ap (reads_latched home clock ports n port) latch
      ∙ ap
      (λ r. Made (given_port ports n (record port { latch = None; stamp = counter }) v) (Some r) [])
      (record_agrees home s number p port.decl.port id v counter);
  program = refl;
}

pub timer_reads : (s : Setting) (i : kernel.Input) (t : ℕ) (timer : TimerState) (v counter : ℕ) → timer.latch ≡ Some v → TimerReadsFixed s i t timer v counter
timer_reads s i t timer v counter latch = record {
  machine = λ clock timers n. ap (clock_latched clock timers n timer) latch;
  program = refl;
}
