use Rattle.xr_driver.proofs.Decides.{checked_at, run_at}
use Rattle.xr_driver.proofs.prepare.carry_out.Goals as goal

pub returns-in-Check : goal.returns-in-Check
returns-in-Check c = rw (c.printing.ensures, c.in-Check.is) (λ shelf read. (checked_at _ _ _ shelf read, tt))

pub returns-in-Asm : goal.returns-in-Asm
returns-in-Asm c = rw c.in-Asm.is (λ shelf read. (c.assemble.ensures.decided _ _ shelf read, c.assemble.ensures.printable))

pub returns : goal.returns
returns c = rw c.in-Time.is (λ shelf read. (c.compile_and_time.ensures.decided _ shelf read, c.compile_and_time.ensures.printable))

pub returns-in-Run : goal.returns-in-Run
returns-in-Run c = rw c.in-Run.is (run_at c.in-Run.file c.in-Run.stim _ _ _ _ _ c.compile_task.ensures)
