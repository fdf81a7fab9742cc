use Rattle.xr_driver.proofs.Decides.{all_without_memory, compiled_at}
use Rattle.xr_driver.proofs.prepare.compile_and_time.Goals as goal

pub returns-in-Ok-clause-decided : goal.returns-in-Ok-clause-decided
returns-in-Ok-clause-decided c file = compiled_at _ _ c.in-Ok.ensures.compiled _ _ _ (c.time_image.ensures.decided file)

pub returns-in-Err-clause-decided : goal.returns-in-Err-clause-decided
returns-in-Err-clause-decided c file = rw c.saying.ensures (all_without_memory _ _ _)
