use Rattle.std.proofs.Common.{◌≡◌, map, take}
use Rattle.xc_kernel.specs.Kernels.{root_of}
use Rattle.xl_ends.specs.Uses.{uses_among}
use Rattle.xl_ends.proofs.branches.used_in_roots.Given as goal

abbrev pub invariant-loop-root : goal.invariant-loop-root
invariant-loop-root l = l.used ≡ map (λ r. uses_among l.channels (root_of r).body) (take l.root-index l.roots)
