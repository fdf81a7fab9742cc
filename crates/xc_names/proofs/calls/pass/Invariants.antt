use Rattle.xc_names.proofs.Searches.{InPass}
use Rattle.xc_names.proofs.calls.pass.Given as goal

abbrev pub invariant-loop-at : goal.invariant-loop-at
invariant-loop-at l = InPass l.marks l.meant l.first l.at l.goal l.initial.reached.keys l.reached.keys l.best
