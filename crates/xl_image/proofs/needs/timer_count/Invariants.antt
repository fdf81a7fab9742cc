use Rattle.std.proofs.Common.{◌≡◌, ◌+◌, drop, sum_by}
use Rattle.xc_disjoint.specs.Needs.{timers_of}
use Rattle.xl_image.proofs.needs.timer_count.Given as goal

abbrev pub invariant-loop-timer : goal.invariant-loop-timer
invariant-loop-timer l = l.count + sum_by (timers_of l.core) (drop l.timer-index l.timers) ≡ sum_by (timers_of l.core) l.timers
