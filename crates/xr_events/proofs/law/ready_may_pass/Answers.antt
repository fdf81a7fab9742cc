use Rattle.xr_events.proofs.Readiness.{port_agrees, timer_agrees}
use Rattle.xr_events.proofs.law.ready_may_pass.Goals as goal

pub returns : goal.returns
returns c = record { ports = port_agrees; timers = timer_agrees }
