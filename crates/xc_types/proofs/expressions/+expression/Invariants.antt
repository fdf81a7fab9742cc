use Rattle.std.proofs.Common.{◌+◌, ◌*◌}
use Rattle.xc_tree.specs.Trees.{expression_of}
use Rattle.xc_types.proofs.Depths.{depth}
use Rattle.xc_types.proofs.expressions.+expression.Given as goal

-- what is left of the walk

abbrev pub decreases-expression : goal.decreases-expression
decreases-expression l = 2 * depth (expression_of l.e.now) + 0

abbrev pub decreases-element : goal.decreases-element
decreases-element l = 2 * depth (expression_of l.index.now) + 1

abbrev pub decreases-cast : goal.decreases-cast
decreases-cast l = 2 * depth (expression_of l.operand.now) + 1

abbrev pub decreases-unary : goal.decreases-unary
decreases-unary l = 2 * depth (expression_of l.operand.now) + 1

abbrev pub decreases-right_operand : goal.decreases-right_operand
decreases-right_operand l = 2 * depth (expression_of l.right.now) + 1

abbrev pub decreases-condition : goal.decreases-condition
decreases-condition l = 2 * depth (expression_of l.test.now) + 1
