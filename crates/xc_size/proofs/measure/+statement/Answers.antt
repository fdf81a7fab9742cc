use Rattle.std.proofs.Common.{max, map, refl, sym, ap, ◌∙◌, arith}
use Rattle.xc_tree.proofs.Forms.{statement-Stmt, branch-Branch, case-Case, action-Empty, action-Block, action-Decl, action-Assign, action-Step, action-Do, action-Output, action-Input, action-If, action-While, action-DoWhile, action-For, action-Return, action-Break, action-Continue, action-Par, action-Repl, action-Select, action-Tran}
use Rattle.xc_tree.specs.Plain as plain
use Rattle.xc_tree.specs.Trees as tree
use Rattle.xc_kernel.specs.Size.{most_statements, most_nodes, greatest_depth}
use Rattle.xc_size.specs.declared.size.Size.{Size}
use Rattle.xc_size.specs.Sizes.{statements_called, nodes_called, depth_called}
use Rattle.xc_size.proofs.Gathers.{gathered_none, gathered_more, gathers_all, highest_all}
use Rattle.xc_size.proofs.UpTo.{up_to_none, sum_of_two, greatest_of_two, behind_none, before_none, two_more, sum_of_three, greatest_of_three, sum_of_four, greatest_of_four, one_more, copies_of}
use Rattle.xc_tree.specs.Heights.{height, height_of_action, height_of_maybe, height_of_statements, height_of_branch, height_of_branches, height_of_case, height_of_cases}
use Rattle.xc_tree.proofs.Heights.{falls, same_height, no_higher, statement_within, branch_within, case_within}
use Rattle.xc_size.proofs.Heights.{one_higher, in_left, in_right, in_middle, in_last}
use Rattle.xc_size.proofs.Measures.{counts_of_statements, counts_of_statements_done, nodes_of_statements, nodes_of_statements_done, depths_of_statements, depths_of_statements_done, counts_of_branches, counts_of_branches_done, nodes_of_branches, nodes_of_branches_done, depths_of_branches, depths_of_branches_done, counts_of_cases, counts_of_cases_done, nodes_of_cases, nodes_of_cases_done, depths_of_cases, depths_of_cases_done}
use Rattle.xc_size.proofs.measure.+statement.Goals as goal

pub statements-loop-s-preserved : goal.statements-loop-s-preserved
statements-loop-s-preserved t c =
    gathered_more _ _ _ c.loop-s.size c.statement.result c.parallel-size.result _ _ _ _ _ _ _ _ _
    (counts_of_statements (statements_called c.args.sizes.now) c.args.ss.now c.loop-s.s-index c.s-item.result c.s-item.is c.loop-s-test.true)
    (nodes_of_statements (nodes_called c.args.sizes.now) c.args.ss.now c.loop-s.s-index c.s-item.result c.s-item.is c.loop-s-test.true)
    (depths_of_statements (depth_called c.args.sizes.now) c.args.ss.now c.loop-s.s-index c.s-item.result c.s-item.is c.loop-s-test.true)
    c.statement.ensures.statements c.statement.ensures.nodes c.statement.ensures.depth
    c.parallel-size.ensures.statements c.parallel-size.ensures.nodes c.parallel-size.ensures.depth
    c.loop-s.invariant

pub statements-returns-clause-statements : goal.statements-returns-clause-statements
statements-returns-clause-statements t c = gathers_all _ _ _ _ (counts_of_statements_done (statements_called c.args.sizes.now) c.args.ss.now c.loop-s.s-index c.loop-s-test.false) c.loop-s.invariant.statements

pub statements-returns-clause-nodes : goal.statements-returns-clause-nodes
statements-returns-clause-nodes t c = gathers_all _ _ _ _ (nodes_of_statements_done (nodes_called c.args.sizes.now) c.args.ss.now c.loop-s.s-index c.loop-s-test.false) c.loop-s.invariant.nodes

pub statements-returns-clause-depth : goal.statements-returns-clause-depth
statements-returns-clause-depth t c = highest_all _ _ _ _ (depths_of_statements_done (depth_called c.args.sizes.now) c.args.ss.now c.loop-s.s-index c.loop-s-test.false) c.loop-s.invariant.depth

pub branches-loop-b-preserved : goal.branches-loop-b-preserved
branches-loop-b-preserved t c =
    gathered_more _ _ _ c.loop-b.size c.branch-sizes.result c.parallel-size.result _ _ _ _ _ _ _ _ _
    (counts_of_branches (statements_called c.args.sizes.now) c.args.bs.now c.loop-b.b-index c.b-item.result c.b-item.is c.loop-b-test.true)
    (nodes_of_branches (nodes_called c.args.sizes.now) c.args.bs.now c.loop-b.b-index c.b-item.result c.b-item.is c.loop-b-test.true)
    (depths_of_branches (depth_called c.args.sizes.now) c.args.bs.now c.loop-b.b-index c.b-item.result c.b-item.is c.loop-b-test.true)
    c.branch-sizes.ensures.statements c.branch-sizes.ensures.nodes c.branch-sizes.ensures.depth
    c.parallel-size.ensures.statements c.parallel-size.ensures.nodes c.parallel-size.ensures.depth
    c.loop-b.invariant

pub branches-returns-clause-statements : goal.branches-returns-clause-statements
branches-returns-clause-statements t c = gathers_all _ _ _ _ (counts_of_branches_done (statements_called c.args.sizes.now) c.args.bs.now c.loop-b.b-index c.loop-b-test.false) c.loop-b.invariant.statements

pub branches-returns-clause-nodes : goal.branches-returns-clause-nodes
branches-returns-clause-nodes t c = gathers_all _ _ _ _ (nodes_of_branches_done (nodes_called c.args.sizes.now) c.args.bs.now c.loop-b.b-index c.loop-b-test.false) c.loop-b.invariant.nodes

pub branches-returns-clause-depth : goal.branches-returns-clause-depth
branches-returns-clause-depth t c = highest_all _ _ _ _ (depths_of_branches_done (depth_called c.args.sizes.now) c.args.bs.now c.loop-b.b-index c.loop-b-test.false) c.loop-b.invariant.depth

pub cases-loop-c-preserved : goal.cases-loop-c-preserved
cases-loop-c-preserved t c =
    gathered_more _ _ _ c.loop-c.size c.case.result c.parallel-size.result _ _ _ _ _ _ _ _ _
    (counts_of_cases (statements_called c.args.sizes.now) c.args.cs.now c.loop-c.c-index c.c-item.result c.c-item.is c.loop-c-test.true)
    (nodes_of_cases (nodes_called c.args.sizes.now) c.args.cs.now c.loop-c.c-index c.c-item.result c.c-item.is c.loop-c-test.true)
    (depths_of_cases (depth_called c.args.sizes.now) c.args.cs.now c.loop-c.c-index c.c-item.result c.c-item.is c.loop-c-test.true)
    c.case.ensures.statements c.case.ensures.nodes c.case.ensures.depth
    c.parallel-size.ensures.statements c.parallel-size.ensures.nodes c.parallel-size.ensures.depth
    c.loop-c.invariant

pub cases-returns-clause-statements : goal.cases-returns-clause-statements
cases-returns-clause-statements t c = gathers_all _ _ _ _ (counts_of_cases_done (statements_called c.args.sizes.now) c.args.cs.now c.loop-c.c-index c.loop-c-test.false) c.loop-c.invariant.statements

pub cases-returns-clause-nodes : goal.cases-returns-clause-nodes
cases-returns-clause-nodes t c = gathers_all _ _ _ _ (nodes_of_cases_done (nodes_called c.args.sizes.now) c.args.cs.now c.loop-c.c-index c.loop-c-test.false) c.loop-c.invariant.nodes

pub cases-returns-clause-depth : goal.cases-returns-clause-depth
cases-returns-clause-depth t c = highest_all _ _ _ _ (depths_of_cases_done (depth_called c.args.sizes.now) c.args.cs.now c.loop-c.c-index c.loop-c-test.false) c.loop-c.invariant.depth

pub action-returns-in-If-clause-statements : goal.action-returns-in-If-clause-statements
action-returns-in-If-clause-statements t c = rw (c.in-If.is, action-If c.in-If.test c.in-If.then c.in-If.otherwise) (one_more _ _ _ _ _ (sum_of_three _ 0 _ _ _ _ _ _ _ c.expression-in-If.ensures.statements c.statement.ensures.statements c.statement_if_any.ensures.statements c.parallel-bodies.ensures.statements c.parallel-in-If.ensures.statements) c.counted-in-If.ensures.statements (omega arith))

pub action-returns-in-If-clause-nodes : goal.action-returns-in-If-clause-nodes
action-returns-in-If-clause-nodes t c = rw (c.in-If.is, action-If c.in-If.test c.in-If.then c.in-If.otherwise) (c.counted-in-If.ensures.nodes ∙ sum_of_three _ _ _ _ _ _ _ _ _ c.expression-in-If.ensures.nodes c.statement.ensures.nodes c.statement_if_any.ensures.nodes c.parallel-bodies.ensures.nodes c.parallel-in-If.ensures.nodes)

pub action-returns-in-If-clause-depth : goal.action-returns-in-If-clause-depth
action-returns-in-If-clause-depth t c = rw (c.in-If.is, action-If c.in-If.test c.in-If.then c.in-If.otherwise) (c.counted-in-If.ensures.depth ∙ greatest_of_three _ _ _ _ _ _ _ _ _ c.expression-in-If.ensures.depth c.statement.ensures.depth c.statement_if_any.ensures.depth c.parallel-bodies.ensures.depth c.parallel-in-If.ensures.depth)

pub action-returns-in-For-clause-statements : goal.action-returns-in-For-clause-statements
action-returns-in-For-clause-statements t c = rw (c.in-For.is, action-For c.in-For.first c.in-For.test c.in-For.step c.in-For.body) (one_more _ _ _ _ _ (sum_of_four _ _ 0 _ _ _ _ _ _ _ _ c.statement_if_any-in-For-2.ensures.statements c.expression_if_any.ensures.statements c.statement_if_any-in-For.ensures.statements c.statement-in-For.ensures.statements c.parallel-turn.ensures.statements c.parallel-turns.ensures.statements _ c.parallel-in-For.ensures.statements) c.counted-in-For.ensures.statements (omega arith))

pub action-returns-in-For-clause-nodes : goal.action-returns-in-For-clause-nodes
action-returns-in-For-clause-nodes t c = rw (c.in-For.is, action-For c.in-For.first c.in-For.test c.in-For.step c.in-For.body) (c.counted-in-For.ensures.nodes ∙ sum_of_four _ _ _ _ _ _ _ _ _ _ _ c.statement_if_any-in-For-2.ensures.nodes c.expression_if_any.ensures.nodes c.statement_if_any-in-For.ensures.nodes c.statement-in-For.ensures.nodes c.parallel-turn.ensures.nodes c.parallel-turns.ensures.nodes _ c.parallel-in-For.ensures.nodes)

pub action-returns-in-For-clause-depth : goal.action-returns-in-For-clause-depth
action-returns-in-For-clause-depth t c = rw (c.in-For.is, action-For c.in-For.first c.in-For.test c.in-For.step c.in-For.body) (c.counted-in-For.ensures.depth ∙ greatest_of_four _ _ _ _ _ _ _ _ _ _ _ c.statement_if_any-in-For-2.ensures.depth c.expression_if_any.ensures.depth c.statement_if_any-in-For.ensures.depth c.statement-in-For.ensures.depth c.parallel-turn.ensures.depth c.parallel-turns.ensures.depth _ c.parallel-in-For.ensures.depth)

pub action-returns-in-Repl-clause-statements : goal.action-returns-in-Repl-clause-statements
action-returns-in-Repl-clause-statements t c = rw (c.in-Repl.is, action-Repl c.in-Repl.first c.in-Repl.second c.in-Repl.third c.in-Repl.from c.in-Repl.to c.in-Repl.body, ← c.deref.ensures, ← c.saturating_sub-copies.ensures) (one_more _ _ _ _ _ (copies_of _ c.saturating_sub-copies.result _ _ _ c.branch-sizes.ensures.statements c.times.ensures.statements) c.counted-in-Repl.ensures.statements refl)

pub action-returns-in-Repl-clause-nodes : goal.action-returns-in-Repl-clause-nodes
action-returns-in-Repl-clause-nodes t c = rw (c.in-Repl.is, action-Repl c.in-Repl.first c.in-Repl.second c.in-Repl.third c.in-Repl.from c.in-Repl.to c.in-Repl.body, ← c.deref.ensures, ← c.saturating_sub-copies.ensures) (c.counted-in-Repl.ensures.nodes ∙ copies_of _ c.saturating_sub-copies.result _ _ _ c.branch-sizes.ensures.nodes c.times.ensures.nodes)

pub action-returns-in-Empty-clause-statements : goal.action-returns-in-Empty-clause-statements
action-returns-in-Empty-clause-statements t c = rw (c.in-Empty.is, action-Empty) (ap (λ (s : Size). s.statements) c.none.ensures ∙ sym (up_to_none most_statements))

pub action-returns-in-Empty-clause-nodes : goal.action-returns-in-Empty-clause-nodes
action-returns-in-Empty-clause-nodes t c = rw (c.in-Empty.is, action-Empty) (ap (λ (s : Size). s.nodes) c.none.ensures ∙ sym (up_to_none most_nodes))

pub action-returns-in-Empty-clause-depth : goal.action-returns-in-Empty-clause-depth
action-returns-in-Empty-clause-depth t c = rw (c.in-Empty.is, action-Empty) (ap (λ (s : Size). s.depth) c.none.ensures ∙ sym (up_to_none greatest_depth))

pub action-returns-in-Block-clause-statements : goal.action-returns-in-Block-clause-statements
action-returns-in-Block-clause-statements t c = rw (c.in-Block.is, action-Block c.in-Block.ss, ← c.as_slice.ensures) (c.statements.ensures.statements)

pub action-returns-in-Block-clause-nodes : goal.action-returns-in-Block-clause-nodes
action-returns-in-Block-clause-nodes t c = rw (c.in-Block.is, action-Block c.in-Block.ss, ← c.as_slice.ensures) (c.statements.ensures.nodes)

pub action-returns-in-Block-clause-depth : goal.action-returns-in-Block-clause-depth
action-returns-in-Block-clause-depth t c = rw (c.in-Block.is, action-Block c.in-Block.ss, ← c.as_slice.ensures) (c.statements.ensures.depth)

pub action-returns-in-Decl-clause-statements : goal.action-returns-in-Decl-clause-statements
action-returns-in-Decl-clause-statements t c = rw (c.in-Decl.is, action-Decl c.in-Decl.ds, ← c.as_slice-in-Decl.ensures) (c.declarations.ensures.statements)

pub action-returns-in-Decl-clause-nodes : goal.action-returns-in-Decl-clause-nodes
action-returns-in-Decl-clause-nodes t c = rw (c.in-Decl.is, action-Decl c.in-Decl.ds, ← c.as_slice-in-Decl.ensures) (c.declarations.ensures.nodes)

pub action-returns-in-Decl-clause-depth : goal.action-returns-in-Decl-clause-depth
action-returns-in-Decl-clause-depth t c = rw (c.in-Decl.is, action-Decl c.in-Decl.ds, ← c.as_slice-in-Decl.ensures) (c.declarations.ensures.depth)

pub action-returns-in-Assign-clause-statements : goal.action-returns-in-Assign-clause-statements
action-returns-in-Assign-clause-statements t c = rw (c.in-Assign.is, action-Assign c.in-Assign.lval c.in-Assign.field-1 c.in-Assign.field-2 c.in-Assign.rhs) (one_more _ _ _ _ _ (behind_none _ _ _ _ _ c.expression.ensures.statements c.right_side.ensures.statements c.parallel.ensures.statements) c.counted.ensures.statements refl)

pub action-returns-in-Assign-clause-nodes : goal.action-returns-in-Assign-clause-nodes
action-returns-in-Assign-clause-nodes t c = rw (c.in-Assign.is, action-Assign c.in-Assign.lval c.in-Assign.field-1 c.in-Assign.field-2 c.in-Assign.rhs) (c.counted.ensures.nodes ∙ sum_of_two _ _ _ _ _ _ c.expression.ensures.nodes c.right_side.ensures.nodes c.parallel.ensures.nodes)

pub action-returns-in-Assign-clause-depth : goal.action-returns-in-Assign-clause-depth
action-returns-in-Assign-clause-depth t c = rw (c.in-Assign.is, action-Assign c.in-Assign.lval c.in-Assign.field-1 c.in-Assign.field-2 c.in-Assign.rhs) (c.counted.ensures.depth ∙ greatest_of_two _ _ _ _ _ _ c.expression.ensures.depth c.right_side.ensures.depth c.parallel.ensures.depth)

pub action-returns-in-Step-clause-statements : goal.action-returns-in-Step-clause-statements
action-returns-in-Step-clause-statements t c = rw (c.in-Step.is, action-Step c.in-Step.lval c.in-Step.field-1) (one_more _ 0 1 _ _ c.expression-in-Step.ensures.statements c.counted-in-Step.ensures.statements refl)

pub action-returns-in-Step-clause-nodes : goal.action-returns-in-Step-clause-nodes
action-returns-in-Step-clause-nodes t c = rw (c.in-Step.is, action-Step c.in-Step.lval c.in-Step.field-1) (c.counted-in-Step.ensures.nodes ∙ c.expression-in-Step.ensures.nodes)

pub action-returns-in-Step-clause-depth : goal.action-returns-in-Step-clause-depth
action-returns-in-Step-clause-depth t c = rw (c.in-Step.is, action-Step c.in-Step.lval c.in-Step.field-1) (c.counted-in-Step.ensures.depth ∙ c.expression-in-Step.ensures.depth)

pub action-returns-in-Do-clause-statements : goal.action-returns-in-Do-clause-statements
action-returns-in-Do-clause-statements t c = rw (c.in-Do.is, action-Do c.in-Do.rhs) (c.right_side-in-Do.ensures.statements)

pub action-returns-in-Do-clause-nodes : goal.action-returns-in-Do-clause-nodes
action-returns-in-Do-clause-nodes t c = rw (c.in-Do.is, action-Do c.in-Do.rhs) (c.right_side-in-Do.ensures.nodes)

pub action-returns-in-Do-clause-depth : goal.action-returns-in-Do-clause-depth
action-returns-in-Do-clause-depth t c = rw (c.in-Do.is, action-Do c.in-Do.rhs) (c.right_side-in-Do.ensures.depth)

pub action-returns-in-Output-clause-statements : goal.action-returns-in-Output-clause-statements
action-returns-in-Output-clause-statements t c = rw (c.in-Output.is, action-Output c.in-Output.send) (one_more _ 0 1 _ _ c.output.ensures.statements c.counted-in-Output.ensures.statements refl)

pub action-returns-in-Output-clause-nodes : goal.action-returns-in-Output-clause-nodes
action-returns-in-Output-clause-nodes t c = rw (c.in-Output.is, action-Output c.in-Output.send) (c.counted-in-Output.ensures.nodes ∙ c.output.ensures.nodes)

pub action-returns-in-Output-clause-depth : goal.action-returns-in-Output-clause-depth
action-returns-in-Output-clause-depth t c = rw (c.in-Output.is, action-Output c.in-Output.send) (c.counted-in-Output.ensures.depth ∙ c.output.ensures.depth)

pub action-returns-in-Input-clause-statements : goal.action-returns-in-Input-clause-statements
action-returns-in-Input-clause-statements t c = rw (c.in-Input.is, action-Input c.in-Input.head) (one_more _ 0 1 _ _ c.input.ensures.statements c.counted-in-Input.ensures.statements refl)

pub action-returns-in-Input-clause-nodes : goal.action-returns-in-Input-clause-nodes
action-returns-in-Input-clause-nodes t c = rw (c.in-Input.is, action-Input c.in-Input.head) (c.counted-in-Input.ensures.nodes ∙ c.input.ensures.nodes)

pub action-returns-in-Input-clause-depth : goal.action-returns-in-Input-clause-depth
action-returns-in-Input-clause-depth t c = rw (c.in-Input.is, action-Input c.in-Input.head) (c.counted-in-Input.ensures.depth ∙ c.input.ensures.depth)

pub action-returns-in-While-clause-statements : goal.action-returns-in-While-clause-statements
action-returns-in-While-clause-statements t c = rw (c.in-While.is, action-While c.in-While.test c.in-While.body) (one_more _ _ _ _ _ (behind_none _ _ _ _ _ c.expression-in-While.ensures.statements c.statement-in-While.ensures.statements c.parallel-in-While.ensures.statements) c.counted-in-While.ensures.statements refl)

pub action-returns-in-While-clause-nodes : goal.action-returns-in-While-clause-nodes
action-returns-in-While-clause-nodes t c = rw (c.in-While.is, action-While c.in-While.test c.in-While.body) (c.counted-in-While.ensures.nodes ∙ sum_of_two _ _ _ _ _ _ c.expression-in-While.ensures.nodes c.statement-in-While.ensures.nodes c.parallel-in-While.ensures.nodes)

pub action-returns-in-While-clause-depth : goal.action-returns-in-While-clause-depth
action-returns-in-While-clause-depth t c = rw (c.in-While.is, action-While c.in-While.test c.in-While.body) (c.counted-in-While.ensures.depth ∙ greatest_of_two _ _ _ _ _ _ c.expression-in-While.ensures.depth c.statement-in-While.ensures.depth c.parallel-in-While.ensures.depth)

pub action-returns-in-DoWhile-clause-statements : goal.action-returns-in-DoWhile-clause-statements
action-returns-in-DoWhile-clause-statements t c = rw (c.in-DoWhile.is, action-DoWhile c.in-DoWhile.body c.in-DoWhile.test) (one_more _ _ _ _ _ (before_none _ _ _ _ _ c.statement-in-DoWhile.ensures.statements c.expression-in-DoWhile.ensures.statements c.parallel-in-DoWhile.ensures.statements) c.counted-in-DoWhile.ensures.statements refl)

pub action-returns-in-DoWhile-clause-nodes : goal.action-returns-in-DoWhile-clause-nodes
action-returns-in-DoWhile-clause-nodes t c = rw (c.in-DoWhile.is, action-DoWhile c.in-DoWhile.body c.in-DoWhile.test) (c.counted-in-DoWhile.ensures.nodes ∙ sum_of_two _ _ _ _ _ _ c.statement-in-DoWhile.ensures.nodes c.expression-in-DoWhile.ensures.nodes c.parallel-in-DoWhile.ensures.nodes)

pub action-returns-in-DoWhile-clause-depth : goal.action-returns-in-DoWhile-clause-depth
action-returns-in-DoWhile-clause-depth t c = rw (c.in-DoWhile.is, action-DoWhile c.in-DoWhile.body c.in-DoWhile.test) (c.counted-in-DoWhile.ensures.depth ∙ greatest_of_two _ _ _ _ _ _ c.statement-in-DoWhile.ensures.depth c.expression-in-DoWhile.ensures.depth c.parallel-in-DoWhile.ensures.depth)

pub action-returns-in-Return-clause-statements : goal.action-returns-in-Return-clause-statements
action-returns-in-Return-clause-statements t c = rw (c.in-Return.is, action-Return c.in-Return.rhs) (one_more _ _ _ _ _ c.right_side_if_any.ensures.statements c.counted-in-Return.ensures.statements refl)

pub action-returns-in-Return-clause-nodes : goal.action-returns-in-Return-clause-nodes
action-returns-in-Return-clause-nodes t c = rw (c.in-Return.is, action-Return c.in-Return.rhs) (c.counted-in-Return.ensures.nodes ∙ c.right_side_if_any.ensures.nodes)

pub action-returns-in-Return-clause-depth : goal.action-returns-in-Return-clause-depth
action-returns-in-Return-clause-depth t c = rw (c.in-Return.is, action-Return c.in-Return.rhs) (c.counted-in-Return.ensures.depth ∙ c.right_side_if_any.ensures.depth)

pub action-returns-in-Break-clause-statements : goal.action-returns-in-Break-clause-statements
action-returns-in-Break-clause-statements t c = rw (c.in-Break.is, action-Break) (one_more _ 0 1 _ _ (ap (λ (s : Size). s.statements) c.none-in-Break.ensures ∙ sym (up_to_none most_statements)) c.counted-in-Break.ensures.statements refl)

pub action-returns-in-Break-clause-nodes : goal.action-returns-in-Break-clause-nodes
action-returns-in-Break-clause-nodes t c = rw (c.in-Break.is, action-Break) (c.counted-in-Break.ensures.nodes ∙ ap (λ (s : Size). s.nodes) c.none-in-Break.ensures ∙ sym (up_to_none most_nodes))

pub action-returns-in-Break-clause-depth : goal.action-returns-in-Break-clause-depth
action-returns-in-Break-clause-depth t c = rw (c.in-Break.is, action-Break) (c.counted-in-Break.ensures.depth ∙ ap (λ (s : Size). s.depth) c.none-in-Break.ensures ∙ sym (up_to_none greatest_depth))

pub action-returns-in-Continue-clause-statements : goal.action-returns-in-Continue-clause-statements
action-returns-in-Continue-clause-statements t c = rw (c.in-Continue.is, action-Continue) (one_more _ 0 1 _ _ (ap (λ (s : Size). s.statements) c.none-in-Continue.ensures ∙ sym (up_to_none most_statements)) c.counted-in-Continue.ensures.statements refl)

pub action-returns-in-Continue-clause-nodes : goal.action-returns-in-Continue-clause-nodes
action-returns-in-Continue-clause-nodes t c = rw (c.in-Continue.is, action-Continue) (c.counted-in-Continue.ensures.nodes ∙ ap (λ (s : Size). s.nodes) c.none-in-Continue.ensures ∙ sym (up_to_none most_nodes))

pub action-returns-in-Continue-clause-depth : goal.action-returns-in-Continue-clause-depth
action-returns-in-Continue-clause-depth t c = rw (c.in-Continue.is, action-Continue) (c.counted-in-Continue.ensures.depth ∙ ap (λ (s : Size). s.depth) c.none-in-Continue.ensures ∙ sym (up_to_none greatest_depth))

pub action-returns-in-Par-clause-statements : goal.action-returns-in-Par-clause-statements
action-returns-in-Par-clause-statements t c = rw (c.in-Par.is, action-Par c.in-Par.bs, ← c.as_slice-in-Par.ensures) (one_more _ _ _ _ _ c.branches.ensures.statements c.counted-in-Par.ensures.statements refl)

pub action-returns-in-Par-clause-nodes : goal.action-returns-in-Par-clause-nodes
action-returns-in-Par-clause-nodes t c = rw (c.in-Par.is, action-Par c.in-Par.bs, ← c.as_slice-in-Par.ensures) (c.counted-in-Par.ensures.nodes ∙ c.branches.ensures.nodes)

pub action-returns-in-Par-clause-depth : goal.action-returns-in-Par-clause-depth
action-returns-in-Par-clause-depth t c = rw (c.in-Par.is, action-Par c.in-Par.bs, ← c.as_slice-in-Par.ensures) (c.counted-in-Par.ensures.depth ∙ c.branches.ensures.depth)

pub action-returns-in-Select-clause-statements : goal.action-returns-in-Select-clause-statements
action-returns-in-Select-clause-statements t c = rw (c.in-Select.is, action-Select c.in-Select.cs, ← c.as_slice-in-Select.ensures) (one_more _ _ _ _ _ c.cases.ensures.statements c.counted-in-Select.ensures.statements refl)

pub action-returns-in-Select-clause-nodes : goal.action-returns-in-Select-clause-nodes
action-returns-in-Select-clause-nodes t c = rw (c.in-Select.is, action-Select c.in-Select.cs, ← c.as_slice-in-Select.ensures) (c.counted-in-Select.ensures.nodes ∙ c.cases.ensures.nodes)

pub action-returns-in-Select-clause-depth : goal.action-returns-in-Select-clause-depth
action-returns-in-Select-clause-depth t c = rw (c.in-Select.is, action-Select c.in-Select.cs, ← c.as_slice-in-Select.ensures) (c.counted-in-Select.ensures.depth ∙ c.cases.ensures.depth)

pub action-returns-in-Tran-clause-statements : goal.action-returns-in-Tran-clause-statements
action-returns-in-Tran-clause-statements t c = rw (c.in-Tran.is, action-Tran c.in-Tran.field-0 c.in-Tran.ss, ← c.as_slice-in-Tran.ensures) (two_more _ _ _ _ c.statements-in-Tran.ensures.statements c.counted-in-Tran.ensures.statements)

pub action-returns-in-Tran-clause-nodes : goal.action-returns-in-Tran-clause-nodes
action-returns-in-Tran-clause-nodes t c = rw (c.in-Tran.is, action-Tran c.in-Tran.field-0 c.in-Tran.ss, ← c.as_slice-in-Tran.ensures) (c.counted-in-Tran.ensures.nodes ∙ c.statements-in-Tran.ensures.nodes)

pub action-returns-in-Tran-clause-depth : goal.action-returns-in-Tran-clause-depth
action-returns-in-Tran-clause-depth t c = rw (c.in-Tran.is, action-Tran c.in-Tran.field-0 c.in-Tran.ss, ← c.as_slice-in-Tran.ensures) (c.counted-in-Tran.ensures.depth ∙ c.statements-in-Tran.ensures.depth)

pub action-returns-in-Repl-clause-depth : goal.action-returns-in-Repl-clause-depth
action-returns-in-Repl-clause-depth t c = rw (c.in-Repl.is, action-Repl c.in-Repl.first c.in-Repl.second c.in-Repl.third c.in-Repl.from c.in-Repl.to c.in-Repl.body, ← c.deref.ensures) (c.counted-in-Repl.ensures.depth ∙ c.times.ensures.depth ∙ c.branch-sizes.ensures.depth)

pub statement-returns-clause-statements : goal.statement-returns-clause-statements
statement-returns-clause-statements t c = rw (statement-Stmt c.args.s.now, ← c.deref.ensures) (c.deeper.ensures.statements ∙ c.action.ensures.statements)

pub statement-returns-clause-nodes : goal.statement-returns-clause-nodes
statement-returns-clause-nodes t c = rw (statement-Stmt c.args.s.now, ← c.deref.ensures) (c.deeper.ensures.nodes ∙ c.action.ensures.nodes)

pub statement-returns-clause-depth : goal.statement-returns-clause-depth
statement-returns-clause-depth t c = rw (statement-Stmt c.args.s.now, ← c.deref.ensures) (one_more _ _ _ _ _ c.action.ensures.depth c.deeper.ensures.depth refl)

pub branch-returns-clause-statements : goal.branch-returns-clause-statements
branch-returns-clause-statements t c = rw (branch-Branch c.args.b.now) (one_more _ _ _ _ _ (behind_none _ _ _ _ _ c.placement.ensures.statements c.statement.ensures.statements c.parallel.ensures.statements) c.counted.ensures.statements refl)

pub branch-returns-clause-nodes : goal.branch-returns-clause-nodes
branch-returns-clause-nodes t c = rw (branch-Branch c.args.b.now) (c.counted.ensures.nodes ∙ sum_of_two _ _ _ _ _ _ c.placement.ensures.nodes c.statement.ensures.nodes c.parallel.ensures.nodes)

pub branch-returns-clause-depth : goal.branch-returns-clause-depth
branch-returns-clause-depth t c = rw (branch-Branch c.args.b.now) (c.counted.ensures.depth ∙ greatest_of_two _ _ _ _ _ _ c.placement.ensures.depth c.statement.ensures.depth c.parallel.ensures.depth)

pub statement_if_any-returns-in-None-clause-statements : goal.statement_if_any-returns-in-None-clause-statements
statement_if_any-returns-in-None-clause-statements t c = rw c.in-None.is (ap (λ (s : Size). s.statements) c.none.ensures ∙ sym (up_to_none most_statements))

pub statement_if_any-returns-in-None-clause-nodes : goal.statement_if_any-returns-in-None-clause-nodes
statement_if_any-returns-in-None-clause-nodes t c = rw c.in-None.is (ap (λ (s : Size). s.nodes) c.none.ensures ∙ sym (up_to_none most_nodes))

pub statement_if_any-returns-in-None-clause-depth : goal.statement_if_any-returns-in-None-clause-depth
statement_if_any-returns-in-None-clause-depth t c = rw c.in-None.is (ap (λ (s : Size). s.depth) c.none.ensures ∙ sym (up_to_none greatest_depth))

pub statement_if_any-returns-in-Some-clause-statements : goal.statement_if_any-returns-in-Some-clause-statements
statement_if_any-returns-in-Some-clause-statements t c = rw c.in-Some.is c.statement.ensures.statements

pub statement_if_any-returns-in-Some-clause-nodes : goal.statement_if_any-returns-in-Some-clause-nodes
statement_if_any-returns-in-Some-clause-nodes t c = rw c.in-Some.is c.statement.ensures.nodes

pub statement_if_any-returns-in-Some-clause-depth : goal.statement_if_any-returns-in-Some-clause-depth
statement_if_any-returns-in-Some-clause-depth t c = rw c.in-Some.is c.statement.ensures.depth

pub case-returns-clause-statements : goal.case-returns-clause-statements
case-returns-clause-statements t c = rw (case-Case c.args.c.now, ← c.as_slice.ensures) (one_more _ _ _ _ _ (behind_none _ _ _ _ _ c.expression_if_any.ensures.statements (behind_none _ _ _ _ _ c.input_if_any.ensures.statements c.statements.ensures.statements c.parallel-body.ensures.statements) c.parallel.ensures.statements) c.counted.ensures.statements refl)

pub case-returns-clause-nodes : goal.case-returns-clause-nodes
case-returns-clause-nodes t c = rw (case-Case c.args.c.now, ← c.as_slice.ensures) (c.counted.ensures.nodes ∙ sum_of_three _ _ _ _ _ _ _ _ _ c.expression_if_any.ensures.nodes c.input_if_any.ensures.nodes c.statements.ensures.nodes c.parallel-body.ensures.nodes c.parallel.ensures.nodes)

pub case-returns-clause-depth : goal.case-returns-clause-depth
case-returns-clause-depth t c = rw (case-Case c.args.c.now, ← c.as_slice.ensures) (c.counted.ensures.depth ∙ greatest_of_three _ _ _ _ _ _ _ _ _ c.expression_if_any.ensures.depth c.input_if_any.ensures.depth c.statements.ensures.depth c.parallel-body.ensures.depth c.parallel.ensures.depth)

pub statements-loop-s-init : goal.statements-loop-s-init
statements-loop-s-init t c = rw c.none-size.ensures (gathered_none _ _ _)

pub branches-loop-b-init : goal.branches-loop-b-init
branches-loop-b-init t c = rw c.none-size.ensures (gathered_none _ _ _)

pub cases-loop-c-init : goal.cases-loop-c-init
cases-loop-c-init t c = rw c.none-size.ensures (gathered_none _ _ _)

pub action-statements-requires : goal.action-statements-requires
action-statements-requires t c = (falls (height_of_action (tree.action_of c.args.kind.now)) 4 (height_of_statements (plain.statements (map tree.statement_of c.as_slice.result.now))) 1 c.decreases (same_height _ _ 4 1 2 (rw (c.in-Block.is, action-Block c.in-Block.ss, ← c.as_slice.ensures) refl) refl), tt)

pub action-statement-requires : goal.action-statement-requires
action-statement-requires t c = (falls (height_of_action (tree.action_of c.args.kind.now)) 4 (height (tree.statement_of c.in-If.then)) 0 c.decreases (no_higher _ _ 4 0 3 (in_left _ (height (tree.statement_of c.in-If.then)) (height_of_maybe (tree.maybe_of c.in-If.otherwise)) (rw (c.in-If.is, action-If c.in-If.test c.in-If.then c.in-If.otherwise) refl)) refl), tt)

pub action-statement_if_any-requires : goal.action-statement_if_any-requires
action-statement_if_any-requires t c = (falls (height_of_action (tree.action_of c.args.kind.now)) 4 (height_of_maybe (tree.maybe_of c.in-If.otherwise)) 1 c.decreases (no_higher _ _ 4 1 2 (in_right _ (height (tree.statement_of c.in-If.then)) (height_of_maybe (tree.maybe_of c.in-If.otherwise)) (rw (c.in-If.is, action-If c.in-If.test c.in-If.then c.in-If.otherwise) refl)) refl), tt)

pub action-statement-requires-in-While : goal.action-statement-requires-in-While
action-statement-requires-in-While t c = (falls (height_of_action (tree.action_of c.args.kind.now)) 4 (height (tree.statement_of c.in-While.body)) 0 c.decreases (same_height _ _ 4 0 3 (rw (c.in-While.is, action-While c.in-While.test c.in-While.body) refl) refl), tt)

pub action-statement-requires-in-DoWhile : goal.action-statement-requires-in-DoWhile
action-statement-requires-in-DoWhile t c = (falls (height_of_action (tree.action_of c.args.kind.now)) 4 (height (tree.statement_of c.in-DoWhile.body)) 0 c.decreases (same_height _ _ 4 0 3 (rw (c.in-DoWhile.is, action-DoWhile c.in-DoWhile.body c.in-DoWhile.test) refl) refl), tt)

pub action-statement_if_any-requires-in-For : goal.action-statement_if_any-requires-in-For
action-statement_if_any-requires-in-For t c = (falls (height_of_action (tree.action_of c.args.kind.now)) 4 (height_of_maybe (tree.maybe_of c.in-For.step)) 1 c.decreases (no_higher _ _ 4 1 2 (in_middle _ (height_of_maybe (tree.maybe_of c.in-For.first)) (height_of_maybe (tree.maybe_of c.in-For.step)) (height (tree.statement_of c.in-For.body)) (rw (c.in-For.is, action-For c.in-For.first c.in-For.test c.in-For.step c.in-For.body) refl)) refl), tt)

pub action-statement-requires-in-For : goal.action-statement-requires-in-For
action-statement-requires-in-For t c = (falls (height_of_action (tree.action_of c.args.kind.now)) 4 (height (tree.statement_of c.in-For.body)) 0 c.decreases (no_higher _ _ 4 0 3 (in_last _ (height_of_maybe (tree.maybe_of c.in-For.first)) (height_of_maybe (tree.maybe_of c.in-For.step)) (height (tree.statement_of c.in-For.body)) (rw (c.in-For.is, action-For c.in-For.first c.in-For.test c.in-For.step c.in-For.body) refl)) refl), tt)

pub action-statement_if_any-requires-in-For-2 : goal.action-statement_if_any-requires-in-For-2
action-statement_if_any-requires-in-For-2 t c = (falls (height_of_action (tree.action_of c.args.kind.now)) 4 (height_of_maybe (tree.maybe_of c.in-For.first)) 1 c.decreases (no_higher _ _ 4 1 2 (in_left _ (height_of_maybe (tree.maybe_of c.in-For.first)) (max (height_of_maybe (tree.maybe_of c.in-For.step)) (height (tree.statement_of c.in-For.body))) (rw (c.in-For.is, action-For c.in-For.first c.in-For.test c.in-For.step c.in-For.body) refl)) refl), tt)

pub action-branches-requires : goal.action-branches-requires
action-branches-requires t c = (falls (height_of_action (tree.action_of c.args.kind.now)) 4 (height_of_branches (plain.branches (map tree.branch_of c.as_slice-in-Par.result.now))) 2 c.decreases (same_height _ _ 4 2 1 (rw (c.in-Par.is, action-Par c.in-Par.bs, ← c.as_slice-in-Par.ensures) refl) refl), tt)

pub action-branch-sizes-requires : goal.action-branch-sizes-requires
action-branch-sizes-requires t c = (falls (height_of_action (tree.action_of c.args.kind.now)) 4 (height_of_branch (tree.branch_of c.deref.result.now)) 1 c.decreases (same_height _ _ 4 1 2 (rw (c.in-Repl.is, action-Repl c.in-Repl.first c.in-Repl.second c.in-Repl.third c.in-Repl.from c.in-Repl.to c.in-Repl.body, ← c.deref.ensures) refl) refl), tt)

pub action-cases-requires : goal.action-cases-requires
action-cases-requires t c = (falls (height_of_action (tree.action_of c.args.kind.now)) 4 (height_of_cases (plain.cases (map tree.case_of c.as_slice-in-Select.result.now))) 3 c.decreases (same_height _ _ 4 3 0 (rw (c.in-Select.is, action-Select c.in-Select.cs, ← c.as_slice-in-Select.ensures) refl) refl), tt)

pub action-statements-requires-in-Tran : goal.action-statements-requires-in-Tran
action-statements-requires-in-Tran t c = (falls (height_of_action (tree.action_of c.args.kind.now)) 4 (height_of_statements (plain.statements (map tree.statement_of c.as_slice-in-Tran.result.now))) 1 c.decreases (same_height _ _ 4 1 2 (rw (c.in-Tran.is, action-Tran c.in-Tran.field-0 c.in-Tran.ss, ← c.as_slice-in-Tran.ensures) refl) refl), tt)

pub branch-statement-requires : goal.branch-statement-requires
branch-statement-requires t c = (falls (height_of_branch (tree.branch_of c.args.b.now)) 1 (height (tree.statement_of c.args.b.now.body)) 0 c.decreases (same_height _ _ 1 0 0 (rw (branch-Branch c.args.b.now) refl) refl), tt)

pub branches-branch-sizes-requires : goal.branches-branch-sizes-requires
branches-branch-sizes-requires t c = (falls (height_of_branches (plain.branches (map tree.branch_of c.args.bs.now))) 2 (height_of_branch (tree.branch_of c.b-item.result)) 1 c.decreases (no_higher _ _ 2 1 0 (branch_within c.args.bs.now c.loop-b.b-index c.b-item.result c.b-item.is c.loop-b-test.true) refl), tt)

pub case-statements-requires : goal.case-statements-requires
case-statements-requires t c = (falls (height_of_case (tree.case_of c.args.c.now)) 2 (height_of_statements (plain.statements (map tree.statement_of c.as_slice.result.now))) 1 c.decreases (same_height _ _ 2 1 0 (rw (case-Case c.args.c.now, ← c.as_slice.ensures) refl) refl), tt)

pub cases-case-requires : goal.cases-case-requires
cases-case-requires t c = (falls (height_of_cases (plain.cases (map tree.case_of c.args.cs.now))) 3 (height_of_case (tree.case_of c.c-item.result)) 2 c.decreases (no_higher _ _ 3 2 0 (case_within c.args.cs.now c.loop-c.c-index c.c-item.result c.c-item.is c.loop-c-test.true) refl), tt)

pub statement-action-requires : goal.statement-action-requires
statement-action-requires t c = (falls (height (tree.statement_of c.args.s.now)) 0 (height_of_action (tree.action_of c.deref.result.now)) 4 c.decreases (one_higher _ _ (rw (statement-Stmt c.args.s.now, ← c.deref.ensures) refl)), tt)

pub statement_if_any-statement-requires : goal.statement_if_any-statement-requires
statement_if_any-statement-requires t c = (falls (height_of_maybe (tree.maybe_of c.args.s.now)) 1 (height (tree.statement_of c.in-Some.s)) 0 c.decreases (same_height _ _ 1 0 0 (rw c.in-Some.is refl) refl), tt)

pub statements-statement-requires : goal.statements-statement-requires
statements-statement-requires t c = (falls (height_of_statements (plain.statements (map tree.statement_of c.args.ss.now))) 1 (height (tree.statement_of c.s-item.result)) 0 c.decreases (no_higher _ _ 1 0 0 (statement_within c.args.ss.now c.loop-s.s-index c.s-item.result c.s-item.is c.loop-s-test.true) refl), tt)
