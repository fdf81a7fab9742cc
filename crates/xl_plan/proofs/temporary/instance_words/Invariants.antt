use Rattle.std.proofs.Common.{◌≡◌, ◌+◌, drop, sum_by}
use Rattle.xc_disjoint.specs.Needs.{words_of_instance}
use Rattle.xl_plan.proofs.temporary.instance_words.Given as goal

abbrev pub invariant-loop-instance : goal.invariant-loop-instance
invariant-loop-instance l =
    l.sum + sum_by (words_of_instance l.core) (drop l.instance-index l.instances) ≡ sum_by (words_of_instance l.core) l.instances
