use Rattle.std.proofs.Common.{◌≡◌, drop}
use Rattle.xs_event.proofs.events.enabled_one.Given as goal
use Rattle.xs_instr.specs.Sight.{some_enabled}

abbrev pub invariant-loop-watch : goal.invariant-loop-watch
invariant-loop-watch l = some_enabled l.watches l.thread ≡ some_enabled (drop l.watch-index l.watches) l.thread
