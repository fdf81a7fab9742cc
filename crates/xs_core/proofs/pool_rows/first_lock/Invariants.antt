use Rattle.std.proofs.Common.{◌≡◌, drop}
use Rattle.xs_core.proofs.pool_rows.first_lock.Given as goal
use Rattle.xs_instr.specs.Pool.{first_free, locks_taken}

abbrev pub invariant-loop-n : goal.invariant-loop-n
invariant-loop-n l = first_free (locks_taken l.locks) 0 ≡ first_free (locks_taken (drop l.n l.locks)) l.n
