use Rattle.xs_fabric.proofs.LockstepLeads.{lockstep_leads}
use Rattle.xs_fabric.proofs.law.lockstep_is_a_run.Goals as goal

pub returns : goal.returns
returns c = λ L s n. let a = lockstep_leads L s n in (a.events, a.to)
