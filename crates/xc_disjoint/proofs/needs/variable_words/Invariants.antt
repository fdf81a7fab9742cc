use Rattle.std.proofs.Common.{◌≡◌, ◌+◌, ◌-◌, ◌^◌, ◌≤◌, drop, min, sum_by}
use Rattle.xc_disjoint.specs.Needs.{words_of_variable}
use Rattle.xc_disjoint.specs.Sums.{capped}
use Rattle.xc_disjoint.proofs.needs.variable_words.Given as goal

abbrev pub invariant-loop-variable : goal.invariant-loop-variable
invariant-loop-variable l =
    (capped (sum_by (words_of_variable l.core) l.variables) ≡ min (l.sum + capped (sum_by (words_of_variable l.core) (drop l.variable-index l.variables))) (2 ^ 64 - 1)) × (l.sum ≤ 2 ^ 64 - 1)
