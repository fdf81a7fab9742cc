use Rattle.xc_tree.specs.Least.{IsLeastOf}
use Rattle.xc_names.specs.NameRules.{IsBrokenBefore}
use Rattle.xc_names.proofs.names.broken_name.Given as goal

abbrev pub invariant-loop-at : goal.invariant-loop-at
invariant-loop-at l = IsLeastOf (IsBrokenBefore l.marks l.at) l.best
