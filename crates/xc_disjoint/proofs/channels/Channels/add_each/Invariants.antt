use Rattle.std.proofs.Common.{◌≡◌, ◌++◌, drop, map}
use Rattle.xc_disjoint.specs.RootUses.{seen_in, seen_of}
use Rattle.xc_disjoint.specs.Uses.{with_branches}
use Rattle.xc_disjoint.specs.UseTables.{shares_in}
use Rattle.xc_kernel.specs.Branches.{branches_of}
use Rattle.xc_kernel.specs.Kernels.{root_of}
use Rattle.xc_disjoint.proofs.channels.Channels.add_each.Given as goal

abbrev pub invariant-loop-root : goal.invariant-loop-root
invariant-loop-root l =
    (map seen_in l.initial.self.in_roots ++ map seen_of (map root_of l.roots)
    ≡ map seen_in l.self.in_roots ++ map seen_of (map root_of (drop l.root-index l.roots)))
    × (with_branches (shares_in l.initial.self.among_roots) (branches_of (map root_of l.roots))
    ≡ with_branches (shares_in l.self.among_roots) (branches_of (map root_of (drop l.root-index l.roots))))
