use Rattle.std.proofs.Common.{◌≡◌, drop, map}
use Rattle.xc_disjoint.specs.Leasts.{first_among}
use Rattle.xc_disjoint.specs.Places.{rule_of_root}
use Rattle.xc_kernel.specs.Kernels.{root_of}
use Rattle.xc_disjoint.proofs.places.first_of_roots.Given as goal

abbrev pub invariant-loop-root : goal.invariant-loop-root
invariant-loop-root l = first_among rule_of_root l.initial.best (map root_of l.roots) ≡ first_among rule_of_root l.best (map root_of (drop l.root-index l.roots))
