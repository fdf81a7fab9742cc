use Rattle.std.proofs.Common.{◌≡◌, ◌+◌, ◌-◌, ◌^◌, ◌≤◌, drop, map, min, sum_by}
use Rattle.xc_kernel.specs.Kernels.{root_of}
use Rattle.xc_disjoint.specs.Needs.{threads_of_root}
use Rattle.xc_disjoint.specs.Sums.{capped}
use Rattle.xc_disjoint.proofs.needs.thread_count.Given as goal

abbrev pub invariant-loop-root : goal.invariant-loop-root
invariant-loop-root l =
    (capped (sum_by (threads_of_root l.core) (map root_of l.roots)) ≡ min (l.sum + capped (sum_by (threads_of_root l.core) (map root_of (drop l.root-index l.roots)))) (2 ^ 64 - 1)) × (l.sum ≤ 2 ^ 64 - 1)
