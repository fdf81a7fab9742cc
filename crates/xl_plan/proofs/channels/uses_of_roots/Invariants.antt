use Rattle.std.proofs.Common.{◌≡◌, ◌++◌, drop, map}
use Rattle.xc_kernel.specs.Kernels.{root_of}
use Rattle.xl_plan.specs.Users.{uses_of_root}
use Rattle.xl_plan.proofs.channels.uses_of_roots.Given as goal

abbrev pub invariant-loop-root : goal.invariant-loop-root
invariant-loop-root l =
    map (uses_of_root l.channels) (map root_of l.roots) ≡ l.uses ++ map (uses_of_root l.channels) (map root_of (drop l.root-index l.roots))
