use Rattle.std.proofs.Common.{◌≡◌, drop}
use Rattle.xs_event.specs.Readiness.{is_set}
use Rattle.xs_instr.specs.Events.{picked_in}
use Rattle.xs_event.proofs.events.first_ready.Given as goal

abbrev pub invariant-loop-n : goal.invariant-loop-n
invariant-loop-n l =
    picked_in l.watches (is_set l.ready) l.thread 0 ≡ picked_in (drop l.n l.watches) (is_set l.ready) l.thread l.n
