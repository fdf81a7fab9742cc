use Rattle.xs_fabric.proofs.LockstepLeads.{rounds_counted}
use Rattle.xs_fabric.proofs.law.round_counts_its_events.Goals as goal

pub returns : goal.returns
returns c = λ L s m. let a = rounds_counted L s m 4 in (a.leads.events, a.leads.to, a.count)
