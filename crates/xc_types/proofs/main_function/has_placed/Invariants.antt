use Rattle.std.proofs.Common.{◌≡◌, drop, map}
use Rattle.xc_tree.specs.Plain as plain
use Rattle.xc_tree.specs.Shapes.Main.{has_placed}
use Rattle.xc_tree.specs.Trees.{branch_of}
use Rattle.xc_types.proofs.main_function.has_placed.Given as goal

abbrev pub invariant-loop-b : goal.invariant-loop-b
invariant-loop-b l = has_placed (plain.branches (map branch_of l.bs)) ≡ has_placed (plain.branches (map branch_of (drop l.b-index l.bs)))
