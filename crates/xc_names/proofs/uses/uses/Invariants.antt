use Rattle.xc_tree.specs.Names.Uses.{Entries}
use Rattle.xc_names.proofs.uses.uses.Given as goal

abbrev pub invariant-loop-at : goal.invariant-loop-at
invariant-loop-at l = Entries l.marks l.at l.uses
