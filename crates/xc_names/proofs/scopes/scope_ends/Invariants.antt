use Rattle.xc_names.proofs.Ends.{Back}
use Rattle.xc_names.proofs.scopes.scope_ends.Given as goal

abbrev pub invariant-back : goal.invariant-back
invariant-back l = Back l.marks l.at l.closing.items l.ends

abbrev pub decreases-back : goal.decreases-back
decreases-back l = l.at
