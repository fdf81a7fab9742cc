use Rattle.std.proofs.Common.{◌≡◌, drop}
use Rattle.xs_core.proofs.pool_rows.first_unused.Given as goal
use Rattle.xs_instr.specs.Pool.{first_free, threads_taken}

abbrev pub invariant-loop-n : goal.invariant-loop-n
invariant-loop-n l = first_free (threads_taken l.threads) 0 ≡ first_free (threads_taken (drop l.n l.threads)) l.n
