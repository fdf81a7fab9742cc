use Rattle.std.proofs.Common.{◌≡◌, ◌+◌, ◌++◌, drop, sum_by}
use Rattle.xl_plan.specs.Layout.{places_from, words_here}
use Rattle.xl_plan.proofs.variables.variable_places.Given as goal

abbrev pub invariant-loop-var : goal.invariant-loop-var
invariant-loop-var l = record {
  laid : places_from l.core 0 l.vars ≡ l.places ++ places_from l.core l.next (drop l.var-index l.vars);
  left : l.next + sum_by (words_here l.core) (drop l.var-index l.vars) ≡ sum_by (words_here l.core) l.vars;
}
