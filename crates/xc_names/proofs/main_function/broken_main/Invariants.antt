use Rattle.std.proofs.Common.{ℕ, ◌<◌, map}
use Rattle.xc_tree.specs.Names.Rules.{IsMain}
use Rattle.xc_tree.specs.Trees.{item_of}
use Rattle.xc_names.proofs.main_function.broken_main.Given as goal

abbrev pub invariant-loop-item : goal.invariant-loop-item
invariant-loop-item l = (k : ℕ) → k < l.item-index → IsMain (map item_of l.item-items) k → ⊥
