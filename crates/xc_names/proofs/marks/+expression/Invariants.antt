use Rattle.xc_tree.specs.Depth as depths
use Rattle.xc_tree.specs.Trees.{expression_of}
use Rattle.xc_names.proofs.marks.+expression.Given as goal

abbrev pub decreases-expression : goal.decreases-expression
decreases-expression l = depths.of_expression (expression_of l.e.now)
