use Rattle.std.proofs.Common.{◌+◌, ◌*◌, max}
use Rattle.xc_kernel.specs.Kernels.{expression_of, place_of}
use Rattle.xl_expr.specs.Measures.{depth, depth_of, depth_at}
use Rattle.xl_expr.specs.Operands.{operands_of}
use Rattle.xl_expr.proofs.expression.+expression.Given as goal

abbrev pub decreases-emit_at : goal.decreases-emit_at
decreases-emit_at l = 8 * depth (expression_of l.x.now) + 1

abbrev pub decreases-emit_place : goal.decreases-emit_place
decreases-emit_place l = 8 * depth_at (place_of l.place.now)

abbrev pub decreases-emit_element : goal.decreases-emit_element
decreases-emit_element l = 8 * depth (expression_of l.index.now) + 4

abbrev pub decreases-emit_operation : goal.decreases-emit_operation
decreases-emit_operation l = 8 * depth_of (operands_of l.operands.now) + 8

abbrev pub decreases-emit_two : goal.decreases-emit_two
decreases-emit_two l = 8 * max (depth (expression_of l.first.now)) (depth (expression_of l.second.now)) + 5

abbrev pub decreases-emit_joined : goal.decreases-emit_joined
decreases-emit_joined l = 8 * max (depth (expression_of l.first.now)) (depth (expression_of l.second.now)) + 4

abbrev pub decreases-emit_kept : goal.decreases-emit_kept
decreases-emit_kept l = 8 * depth (expression_of l.second.now) + 2

abbrev pub decreases-emit_short : goal.decreases-emit_short
decreases-emit_short l = 8 * depth (expression_of l.second.now) + 2

abbrev pub decreases-emit_choice : goal.decreases-emit_choice
decreases-emit_choice l = 8 * max (depth (expression_of l.second.now)) (depth (expression_of l.third.now)) + 2
