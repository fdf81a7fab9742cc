use Rattle.std.proofs.Common.{◌≡◌, drop, map}
use Rattle.xc_tree.specs.Plain as plain
use Rattle.xc_tree.specs.Trees as tree
use Rattle.xc_kernel.specs.Roots as spec
use Rattle.xc_inline.proofs.roots.some_placed.Given as goal

abbrev pub invariant-loop-b : goal.invariant-loop-b
invariant-loop-b l = spec.has_placed (plain.branches (map tree.branch_of l.bs)) ≡ spec.has_placed (plain.branches (map tree.branch_of (drop l.b-index l.bs)))
