use Rattle.xr_driver.specs.Answers.{no_command}
use Rattle.xr_driver.proofs.Decides.{meant_next}
use Rattle.xr_driver.proofs.prepare.prepare.Goals as goal

pub returns-in-Some-clause-next : goal.returns-in-Some-clause-next
returns-in-Some-clause-next g c = meant_next _ _ _ _ c.in-Some.ensures c.answer.ensures.next

pub returns-in-Some-clause-files : goal.returns-in-Some-clause-files
returns-in-Some-clause-files g c = c.answer.ensures.files

pub returns-in-Some-clause-faults : goal.returns-in-Some-clause-faults
returns-in-Some-clause-faults g c = c.answer.ensures.faults

pub returns-in-None-clause-next : goal.returns-in-None-clause-next
returns-in-None-clause-next g c = rw c.saying.ensures (no_command c.in-None.ensures, tt)
