use Rattle.std.proofs.Common.{◌≡◌}
use Rattle.xs_event.proofs.Cleared.{cleared_to}
use Rattle.xs_event.proofs.events.clear_in.Given as goal

abbrev pub invariant-loop-n : goal.invariant-loop-n
invariant-loop-n l = l.watches ≡ cleared_to l.initial.watches l.thread l.n
