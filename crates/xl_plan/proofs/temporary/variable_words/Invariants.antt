use Rattle.std.proofs.Common.{◌≡◌, ◌+◌, drop, sum_by}
use Rattle.xc_disjoint.specs.Needs.{words_of_variable}
use Rattle.xl_plan.proofs.temporary.variable_words.Given as goal

abbrev pub invariant-loop-variable : goal.invariant-loop-variable
invariant-loop-variable l =
    l.sum + sum_by (words_of_variable l.core) (drop l.variable-index l.variables) ≡ sum_by (words_of_variable l.core) l.variables
