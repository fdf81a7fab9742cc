use Rattle.std.proofs.Common.{◌≡◌}
use Rattle.xs_core.proofs.Changed.{changed_to}
use Rattle.xs_core.proofs.pool_rows.start_all.Given as goal
use Rattle.xs_instr.specs.Pool.{is_tied, started_by}

abbrev pub invariant-loop-k : goal.invariant-loop-k
invariant-loop-k l = l.threads ≡ changed_to (λ x. started_by x (is_tied x l.n)) l.initial.threads l.k
