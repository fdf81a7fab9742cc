use Rattle.std.proofs.Common.{◌≡◌, drop, map}
use Rattle.xc_tree.specs.Plain as plain
use Rattle.xc_tree.specs.Shapes.Main.{place_branches}
use Rattle.xc_tree.specs.Trees.{statement_of}
use Rattle.xc_types.proofs.main_function.place_branches.Given as goal

abbrev pub invariant-loop-s : goal.invariant-loop-s
invariant-loop-s l = place_branches (plain.statements (map statement_of l.ss)) ≡ place_branches (plain.statements (map statement_of (drop l.s-index l.ss)))
