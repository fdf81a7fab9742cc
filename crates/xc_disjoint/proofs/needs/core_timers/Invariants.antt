use Rattle.std.proofs.Common.{◌≡◌, ◌+◌, ◌-◌, ◌^◌, ◌≤◌, drop, min, sum_by}
use Rattle.xc_disjoint.specs.Needs.{timers_of}
use Rattle.xc_disjoint.specs.Sums.{capped}
use Rattle.xc_disjoint.proofs.needs.core_timers.Given as goal

abbrev pub invariant-loop-timer : goal.invariant-loop-timer
invariant-loop-timer l =
    (capped (sum_by (timers_of l.core) l.timers) ≡ min (l.sum + capped (sum_by (timers_of l.core) (drop l.timer-index l.timers))) (2 ^ 64 - 1)) × (l.sum ≤ 2 ^ 64 - 1)
