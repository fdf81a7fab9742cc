use Rattle.std.proofs.Common.{◌≡◌, ◌++◌, drop, map}
use Rattle.xc_tree.specs.Trees.{program_of, item_of}
use Rattle.xc_kernel.specs.Programs as spec
use Rattle.xc_inline.specs.Functions.{functions_among}
use Rattle.xc_inline.proofs.functions.Functions.of_tree.Given as goal

abbrev pub invariant-loop-item : goal.invariant-loop-item
invariant-loop-item l = functions_among l.all.items ++ spec.functions (map item_of (drop l.item-index l.tree.items)) ≡ spec.functions (program_of l.tree)
