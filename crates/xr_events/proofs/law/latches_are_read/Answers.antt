use Rattle.xr_events.proofs.Latched.{port_reads, timer_reads}
use Rattle.xr_events.proofs.law.latches_are_read.Goals as goal

pub returns : goal.returns
returns c = record { ports = port_reads; timers = timer_reads }
