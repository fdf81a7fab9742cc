use Rattle.xr_driver.proofs.Decides.{after_run}
use Rattle.xr_driver.proofs.Limits.{task_limits}
use Rattle.xr_driver.proofs.decide.decide_by_workers.Goals as goal

pub run_by_workers-run-requires-clause-ticks : goal.run_by_workers-run-requires-clause-ticks
run_by_workers-run-requires-clause-ticks g c κs within = (task_limits _ _ _ c.in-Left.ensures.next).0

pub run_by_workers-run-requires-clause-workers : goal.run_by_workers-run-requires-clause-workers
run_by_workers-run-requires-clause-workers g c κs within = (task_limits _ _ _ c.in-Left.ensures.next).1

pub returns-in-Left-clause-decided : goal.returns-in-Left-clause-decided
returns-in-Left-clause-decided g c =
    after_run _ _ c.in-Left.task c.run_by_workers-run.result c.after_run.result c.after_run.ensures.outcome c.in-Left.ensures.next c.run_by_workers-run.ensures
