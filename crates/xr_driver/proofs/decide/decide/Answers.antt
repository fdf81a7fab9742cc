use Rattle.xr_driver.proofs.Decides.{after_run}
use Rattle.xr_driver.proofs.Limits.{task_limits}
use Rattle.xr_driver.proofs.decide.decide.Goals as goal

pub run_alone-run-requires-clause-ticks : goal.run_alone-run-requires-clause-ticks
run_alone-run-requires-clause-ticks g c = (task_limits _ _ _ c.in-Left.ensures.next).0

pub returns-in-Left-clause-decided : goal.returns-in-Left-clause-decided
returns-in-Left-clause-decided g c =
    after_run _ _ c.in-Left.task c.run_alone-run.result c.after_run.result c.after_run.ensures.outcome c.in-Left.ensures.next c.run_alone-run.ensures
