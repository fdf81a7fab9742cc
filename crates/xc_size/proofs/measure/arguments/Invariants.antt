use Rattle.std.proofs.Common.{drop, map}
use Rattle.xc_kernel.specs.Nodes as nodes
use Rattle.xc_tree.specs.Depth as depth
use Rattle.xc_tree.specs.Trees as tree
use Rattle.std.specs.Prelude.{sum_by}
use Rattle.xc_size.proofs.Gathers.{Gathered}
use Rattle.xc_size.proofs.measure.arguments.Given as goal

abbrev pub invariant-loop-arg : goal.invariant-loop-arg
invariant-loop-arg l =
    Gathered
    (0)
    (sum_by nodes.of_argument (map tree.argument_of l.args))
    (depth.highest depth.of_argument (map tree.argument_of l.args))
    l.size
    (0)
    (sum_by nodes.of_argument (map tree.argument_of (drop l.arg-index l.args)))
    (depth.highest depth.of_argument (map tree.argument_of (drop l.arg-index l.args)))
