use Rattle.std.proofs.Common.{◌≡◌, ◌+◌, drop, sum_by}
use Rattle.xl_plan.specs.Layout.{ends_there}
use Rattle.xl_plan.proofs.channels.end_count.Given as goal

abbrev pub invariant-loop-cores : goal.invariant-loop-cores
invariant-loop-cores l =
    l.count + sum_by (ends_there l.core) (drop l.cores-index l.channels) ≡ sum_by (ends_there l.core) l.channels
