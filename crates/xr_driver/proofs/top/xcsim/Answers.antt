use Rattle.xr_driver.proofs.Completes.{completes}
use Rattle.xr_driver.proofs.OnlyCauses.{only_causes}
use Rattle.xr_driver.proofs.top.xcsim.Goals as goal

pub returns-clause-answers : goal.returns-clause-answers
returns-clause-answers g c = record { outcome = _; decided = c.decide_by_workers-decision.ensures.decided; delivered = c.deliver.ensures.delivered }

pub returns-clause-only : goal.returns-clause-only
returns-clause-only g c = only_causes _ _ _ _ _ (record { outcome = _; decided = c.decide_by_workers-decision.ensures.decided; delivered = c.deliver.ensures.delivered })

pub returns-clause-complete : goal.returns-clause-complete
returns-clause-complete g c = completes _ _ _ _ _ (record { outcome = _; decided = c.decide_by_workers-decision.ensures.decided; delivered = c.deliver.ensures.delivered })
