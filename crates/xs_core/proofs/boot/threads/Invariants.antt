use Rattle.std.proofs.Common.{◌≡◌}
use Rattle.xs_core.proofs.boot.threads.Given as goal
use Rattle.xs_core.proofs.Starting.{started_to}

abbrev pub invariant-loop-t : goal.invariant-loop-t
invariant-loop-t l = l.threads ≡ started_to l.roots 8 l.t
