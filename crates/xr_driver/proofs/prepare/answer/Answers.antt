use Rattle.std.proofs.Common.{refl}
use Rattle.xr_driver.proofs.prepare.answer.Goals as goal

pub returns-in-Ok-clause-next : goal.returns-in-Ok-clause-next
returns-in-Ok-clause-next g c = c.carry_out.ensures _ c.in-Ok.ensures.read

pub returns-in-Err-clause-next : goal.returns-in-Err-clause-next
returns-in-Err-clause-next g c = rw c.saying.ensures (c.in-Err.ensures.refused _ refl, tt)
