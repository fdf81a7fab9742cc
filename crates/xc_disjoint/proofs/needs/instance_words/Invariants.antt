use Rattle.std.proofs.Common.{◌≡◌, ◌+◌, ◌-◌, ◌^◌, ◌≤◌, drop, min, sum_by}
use Rattle.xc_disjoint.specs.Needs.{words_of_instance}
use Rattle.xc_disjoint.specs.Sums.{capped}
use Rattle.xc_disjoint.proofs.needs.instance_words.Given as goal

abbrev pub invariant-loop-instance : goal.invariant-loop-instance
invariant-loop-instance l =
    (capped (sum_by (words_of_instance l.core) l.instances) ≡ min (l.sum + capped (sum_by (words_of_instance l.core) (drop l.instance-index l.instances))) (2 ^ 64 - 1)) × (l.sum ≤ 2 ^ 64 - 1)
