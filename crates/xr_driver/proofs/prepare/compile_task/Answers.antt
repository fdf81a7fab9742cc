use Rattle.xr_driver.proofs.Decides.{left_at, next_without_memory}
use Rattle.xr_driver.proofs.prepare.compile_task.Goals as goal

pub returns-in-Ok : goal.returns-in-Ok
returns-in-Ok c file name = left_at _ _ c.in-Ok.ensures.compiled file name _ _ _ c.requires.good.stim

pub returns-in-Err : goal.returns-in-Err
returns-in-Err c file name = next_without_memory _ _ _ _ c.saying.ensures
