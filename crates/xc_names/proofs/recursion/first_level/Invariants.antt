use Rattle.xc_names.specs.Graphs.{IsFirstLevel}
use Rattle.xc_names.proofs.recursion.first_level.Given as goal

abbrev pub invariant-loop-at : goal.invariant-loop-at
invariant-loop-at l = IsFirstLevel l.edges l.numbers l.at l.best
