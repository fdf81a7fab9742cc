use Rattle.xc_names.proofs.Finds.{Leads, left}
use Rattle.xc_names.proofs.meanings.find.Given as goal

abbrev pub invariant-out : goal.invariant-out
invariant-out l = Leads l.ends l.outer l.at l.fn.from l.next

abbrev pub decreases-out : goal.decreases-out
decreases-out l = left l.ends l.at l.next
