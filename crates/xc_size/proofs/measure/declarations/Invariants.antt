use Rattle.std.proofs.Common.{drop, map}
use Rattle.xc_kernel.specs.Counts as counts
use Rattle.xc_kernel.specs.Nodes as nodes
use Rattle.xc_kernel.specs.Depths as depths
use Rattle.xc_tree.specs.Depth as depth
use Rattle.xc_tree.specs.Trees as tree
use Rattle.xc_size.specs.Sizes.{statements_called, nodes_called, depth_called}
use Rattle.std.specs.Prelude.{sum_by}
use Rattle.xc_size.proofs.Gathers.{Gathered}
use Rattle.xc_size.proofs.measure.declarations.Given as goal

abbrev pub invariant-loop-d : goal.invariant-loop-d
invariant-loop-d l =
    Gathered
    (sum_by (counts.of_declaration (statements_called l.sizes)) (map tree.declaration_of l.declared))
    (sum_by (nodes.of_declaration (nodes_called l.sizes)) (map tree.declaration_of l.declared))
    (depth.highest (depths.of_declaration (depth_called l.sizes)) (map tree.declaration_of l.declared))
    l.size
    (sum_by (counts.of_declaration (statements_called l.sizes)) (map tree.declaration_of (drop l.d-index l.declared)))
    (sum_by (nodes.of_declaration (nodes_called l.sizes)) (map tree.declaration_of (drop l.d-index l.declared)))
    (depth.highest (depths.of_declaration (depth_called l.sizes)) (map tree.declaration_of (drop l.d-index l.declared)))
