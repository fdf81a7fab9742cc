use Rattle.std.proofs.Common.{◌≡◌, drop}
use Rattle.xs_core.proofs.pool_rows.is_some_tied.Given as goal
use Rattle.xs_instr.specs.Pool.{some_tied}

abbrev pub invariant-loop-thread : goal.invariant-loop-thread
invariant-loop-thread l = some_tied l.threads l.n ≡ some_tied (drop l.thread-index l.threads) l.n
