use Rattle.std.proofs.Common.{◌≡◌, drop, map}
use Rattle.xc_disjoint.specs.Places.{first_in_roots}
use Rattle.xc_kernel.specs.Kernels.{root_of}
use Rattle.xc_disjoint.proofs.ports.first_elsewhere.Given as goal

abbrev pub invariant-loop-root : goal.invariant-loop-root
invariant-loop-root l = first_in_roots l.ports l.initial.best (map root_of l.roots) ≡ first_in_roots l.ports l.best (map root_of (drop l.root-index l.roots))
