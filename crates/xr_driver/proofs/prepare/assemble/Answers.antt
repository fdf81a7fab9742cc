use Rattle.xr_driver.proofs.Decides.{all_without_memory, assembled_at}
use Rattle.xr_driver.proofs.prepare.assemble.Goals as goal

pub returns-in-Ok-clause-decided : goal.returns-in-Ok-clause-decided
returns-in-Ok-clause-decided c file s = rw c.printing.ensures (assembled_at _ _ c.in-Ok.ensures.compiled file s)

pub returns-in-Err-clause-decided : goal.returns-in-Err-clause-decided
returns-in-Err-clause-decided c file s = rw c.saying.ensures (all_without_memory _ _ _)
