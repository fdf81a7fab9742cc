use Rattle.std.proofs.Common.{refl}
use Rattle.xc_kernel.specs.Nodes as nodes
use Rattle.xc_tree.specs.Depth as depth
use Rattle.xc_tree.specs.Trees as tree
use Rattle.xc_size.proofs.Gathers.{gathered_more, gathers_all, highest_all}
use Rattle.xc_size.proofs.Measures.{sum_step, highest_step, sum_done, highest_done}
use Rattle.xc_size.proofs.measure.arguments.Goals as goal

pub loop-arg-preserved : goal.loop-arg-preserved
loop-arg-preserved c =
    gathered_more _ _ _ c.loop-arg.size c.expression.result c.parallel-size.result _ _ _ _ _ _ _ _ _
    refl
    (sum_step nodes.of_argument tree.argument_of c.args.args.now c.loop-arg.arg-index c.arg-item.result c.arg-item.is c.loop-arg-test.true)
    (highest_step depth.of_argument tree.argument_of c.args.args.now c.loop-arg.arg-index c.arg-item.result c.arg-item.is c.loop-arg-test.true)
    c.expression.ensures.statements c.expression.ensures.nodes c.expression.ensures.depth
    c.parallel-size.ensures.statements c.parallel-size.ensures.nodes c.parallel-size.ensures.depth
    c.loop-arg.invariant

pub returns-clause-statements : goal.returns-clause-statements
returns-clause-statements c = gathers_all _ _ _ _ refl c.loop-arg.invariant.statements

pub returns-clause-nodes : goal.returns-clause-nodes
returns-clause-nodes c = gathers_all _ _ _ _ (sum_done nodes.of_argument tree.argument_of c.args.args.now c.loop-arg.arg-index c.loop-arg-test.false) c.loop-arg.invariant.nodes

pub returns-clause-depth : goal.returns-clause-depth
returns-clause-depth c = highest_all _ _ _ _ (highest_done depth.of_argument tree.argument_of c.args.args.now c.loop-arg.arg-index c.loop-arg-test.false) c.loop-arg.invariant.depth
