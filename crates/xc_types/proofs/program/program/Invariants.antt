use Rattle.std.proofs.Common.{◌≡◌, drop, map}
use Rattle.xc_tree.specs.Names.Marks as marks
use Rattle.xc_tree.specs.Trees.{item_of}
use Rattle.xc_tree.specs.Types.Named.{named_of}
use Rattle.xc_tree.specs.Types.Sites as sites
use Rattle.xc_types.specs.Checker.{saw}
use Rattle.xc_types.proofs.program.program.Given as goal

abbrev pub invariant-loop-item : goal.invariant-loop-item
invariant-loop-item l =
    saw l.initial.found (marks.of_items 0 (map item_of l.item-items)) (sites.of_items (named_of l.named) 0 l.initial.found.names (map item_of l.item-items))
    ≡ saw l.found (marks.of_items l.item-index (map item_of (drop l.item-index l.item-items))) (sites.of_items (named_of l.named) l.item-index l.found.names (map item_of (drop l.item-index l.item-items)))
