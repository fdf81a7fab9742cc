use Rattle.std.proofs.Common.{◌≡◌, ◌++◌, drop}
use Rattle.xs_instr.specs.Resources.{name_of}
use Rattle.xl_plan.specs.Layout.{core_of_timer, identifiers_from}
use Rattle.xl_plan.proofs.resources.timer_identifiers.Given as goal

abbrev pub invariant-loop-timer : goal.invariant-loop-timer
invariant-loop-timer l =
    identifiers_from core_of_timer l.core (name_of l.core 0 1) l.timers ≡ l.all ++ identifiers_from core_of_timer l.core l.next (drop l.timer-index l.timers)
