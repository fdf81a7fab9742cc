use Rattle.std.proofs.Common.{◌≡◌, ◌+◌, ◌≤◌, drop}
use Rattle.xs_core.proofs.counts.trapped.Given as goal
use Rattle.xs_instr.specs.Sight.{count_true, threads_trapped}

abbrev pub invariant-loop-thread : goal.invariant-loop-thread
invariant-loop-thread l = record {
  some : l.count ≤ l.thread-index;
  all : l.count + count_true (threads_trapped (drop l.thread-index l.threads)) ≡ count_true (threads_trapped l.threads);
}
