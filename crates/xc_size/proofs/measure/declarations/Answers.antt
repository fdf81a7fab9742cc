use Rattle.xc_kernel.specs.Counts as counts
use Rattle.xc_kernel.specs.Nodes as nodes
use Rattle.xc_kernel.specs.Depths as depths
use Rattle.xc_tree.specs.Trees as tree
use Rattle.xc_size.specs.Sizes.{statements_called, nodes_called, depth_called}
use Rattle.xc_size.proofs.Gathers.{gathered_more, gathers_all, highest_all}
use Rattle.xc_size.proofs.Measures.{sum_step, highest_step, sum_done, highest_done}
use Rattle.xc_size.proofs.measure.declarations.Goals as goal

pub loop-d-preserved : goal.loop-d-preserved
loop-d-preserved c =
    gathered_more _ _ _ c.loop-d.size c.declaration.result c.parallel-size.result _ _ _ _ _ _ _ _ _
    (sum_step (counts.of_declaration (statements_called c.args.sizes.now)) tree.declaration_of c.args.declared.now c.loop-d.d-index c.d-item.result c.d-item.is c.loop-d-test.true)
    (sum_step (nodes.of_declaration (nodes_called c.args.sizes.now)) tree.declaration_of c.args.declared.now c.loop-d.d-index c.d-item.result c.d-item.is c.loop-d-test.true)
    (highest_step (depths.of_declaration (depth_called c.args.sizes.now)) tree.declaration_of c.args.declared.now c.loop-d.d-index c.d-item.result c.d-item.is c.loop-d-test.true)
    c.declaration.ensures.statements c.declaration.ensures.nodes c.declaration.ensures.depth
    c.parallel-size.ensures.statements c.parallel-size.ensures.nodes c.parallel-size.ensures.depth
    c.loop-d.invariant

pub returns-clause-statements : goal.returns-clause-statements
returns-clause-statements c = gathers_all _ _ _ _ (sum_done (counts.of_declaration (statements_called c.args.sizes.now)) tree.declaration_of c.args.declared.now c.loop-d.d-index c.loop-d-test.false) c.loop-d.invariant.statements

pub returns-clause-nodes : goal.returns-clause-nodes
returns-clause-nodes c = gathers_all _ _ _ _ (sum_done (nodes.of_declaration (nodes_called c.args.sizes.now)) tree.declaration_of c.args.declared.now c.loop-d.d-index c.loop-d-test.false) c.loop-d.invariant.nodes

pub returns-clause-depth : goal.returns-clause-depth
returns-clause-depth c = highest_all _ _ _ _ (highest_done (depths.of_declaration (depth_called c.args.sizes.now)) tree.declaration_of c.args.declared.now c.loop-d.d-index c.loop-d-test.false) c.loop-d.invariant.depth
