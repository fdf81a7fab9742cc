use Rattle.xc_names.specs.Graphs.{NeverRises}
use Rattle.xc_names.proofs.recursion.never_rises.Given as goal

abbrev pub invariant-loop-at : goal.invariant-loop-at
invariant-loop-at l = NeverRises l.edges l.numbers l.at
