use Rattle.std.proofs.Common.{◌≡◌, drop, map}
use Rattle.xc_tree.specs.Plain as plain
use Rattle.xc_tree.specs.Trees as tree
use Rattle.xc_kernel.specs.Roots as spec
use Rattle.xc_inline.proofs.roots.block_has_placed.Given as goal

abbrev pub invariant-loop-s : goal.invariant-loop-s
invariant-loop-s l = spec.block_has_placed (plain.statements (map tree.statement_of l.ss)) ≡ spec.block_has_placed (plain.statements (map tree.statement_of (drop l.s-index l.ss)))
