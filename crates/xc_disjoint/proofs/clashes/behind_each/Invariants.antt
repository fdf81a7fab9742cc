use Rattle.std.proofs.Common.{drop, map}
use Rattle.xc_kernel.specs.Branches.{branches_of}
use Rattle.xc_kernel.specs.Kernels.{root_of}
use Rattle.xc_disjoint.specs.Behind.{ClashesBehind}
use Rattle.xc_disjoint.specs.Footprints.{uses_in}
use Rattle.xc_disjoint.proofs.FirstSoFar.{Goes}
use Rattle.xc_disjoint.proofs.clashes.behind_each.Given as goal

abbrev pub invariant-loop-root : goal.invariant-loop-root
invariant-loop-root l = Goes (ClashesBehind (uses_in l.initial.whole) (branches_of (map root_of l.roots))) (ClashesBehind (uses_in l.whole) (branches_of (map root_of (drop l.root-index l.roots)))) l.best
