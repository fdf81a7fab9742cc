use Rattle.xc_tree.specs.Least.{IsLeastOf}
use Rattle.xc_names.specs.Searches.{IsBackToOne}
use Rattle.xc_names.proofs.recursion.broken_by_search.Given as goal

abbrev pub invariant-loop-goal : goal.invariant-loop-goal
invariant-loop-goal l = IsLeastOf (IsBackToOne l.marks l.meant l.starts l.goal) l.best
