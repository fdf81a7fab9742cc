use Rattle.std.proofs.Common.{◌≡◌, ◌++◌, drop, map}
use Rattle.xc_tree.specs.Trees.{item_of}
use Rattle.xc_kernel.specs.Programs.{functions}
use Rattle.xc_size.specs.Functions.{function_of}
use Rattle.xc_size.proofs.functions.functions_of.Given as goal

abbrev pub invariant-loop-item : goal.invariant-loop-item
invariant-loop-item l =
    functions (map item_of l.tree.items) ≡ map (λ f. function_of f.now) l.all ++ functions (map item_of (drop l.item-index l.tree.items))
