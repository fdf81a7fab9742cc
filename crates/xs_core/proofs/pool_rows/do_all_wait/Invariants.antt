use Rattle.std.proofs.Common.{◌≡◌, drop}
use Rattle.xs_core.proofs.pool_rows.do_all_wait.Given as goal
use Rattle.xs_instr.specs.Pool.{all_wait}

abbrev pub invariant-loop-thread : goal.invariant-loop-thread
invariant-loop-thread l = all_wait l.threads l.n ≡ all_wait (drop l.thread-index l.threads) l.n
