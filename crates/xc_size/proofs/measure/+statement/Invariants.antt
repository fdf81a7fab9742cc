use Rattle.std.proofs.Common.{◌+◌, ◌*◌, drop, map}
use Rattle.xc_kernel.specs.Counts as counts
use Rattle.xc_kernel.specs.Nodes as nodes
use Rattle.xc_kernel.specs.Depths as depths
use Rattle.xc_tree.specs.Plain as plain
use Rattle.xc_tree.specs.Trees as tree
use Rattle.xc_size.specs.Sizes.{statements_called, nodes_called, depth_called}
use Rattle.xc_size.proofs.Gathers.{Gathered}
use Rattle.xc_tree.specs.Heights.{height, height_of_action, height_of_maybe, height_of_statements, height_of_branch, height_of_branches, height_of_case, height_of_cases}
use Rattle.xc_size.proofs.measure.+statement.Given as goal

abbrev pub invariant-statements-loop-s : goal.invariant-statements-loop-s
invariant-statements-loop-s l =
    Gathered
    (counts.of_statements (statements_called l.sizes) (plain.statements (map tree.statement_of l.ss)))
    (nodes.of_statements (nodes_called l.sizes) (plain.statements (map tree.statement_of l.ss)))
    (depths.of_statements (depth_called l.sizes) (plain.statements (map tree.statement_of l.ss)))
    l.size
    (counts.of_statements (statements_called l.sizes) (plain.statements (map tree.statement_of (drop l.s-index l.ss))))
    (nodes.of_statements (nodes_called l.sizes) (plain.statements (map tree.statement_of (drop l.s-index l.ss))))
    (depths.of_statements (depth_called l.sizes) (plain.statements (map tree.statement_of (drop l.s-index l.ss))))

abbrev pub invariant-branches-loop-b : goal.invariant-branches-loop-b
invariant-branches-loop-b l =
    Gathered
    (counts.of_branches (statements_called l.sizes) (plain.branches (map tree.branch_of l.bs)))
    (nodes.of_branches (nodes_called l.sizes) (plain.branches (map tree.branch_of l.bs)))
    (depths.of_branches (depth_called l.sizes) (plain.branches (map tree.branch_of l.bs)))
    l.size
    (counts.of_branches (statements_called l.sizes) (plain.branches (map tree.branch_of (drop l.b-index l.bs))))
    (nodes.of_branches (nodes_called l.sizes) (plain.branches (map tree.branch_of (drop l.b-index l.bs))))
    (depths.of_branches (depth_called l.sizes) (plain.branches (map tree.branch_of (drop l.b-index l.bs))))

abbrev pub invariant-cases-loop-c : goal.invariant-cases-loop-c
invariant-cases-loop-c l =
    Gathered
    (counts.of_cases (statements_called l.sizes) (plain.cases (map tree.case_of l.cs)))
    (nodes.of_cases (nodes_called l.sizes) (plain.cases (map tree.case_of l.cs)))
    (depths.of_cases (depth_called l.sizes) (plain.cases (map tree.case_of l.cs)))
    l.size
    (counts.of_cases (statements_called l.sizes) (plain.cases (map tree.case_of (drop l.c-index l.cs))))
    (nodes.of_cases (nodes_called l.sizes) (plain.cases (map tree.case_of (drop l.c-index l.cs))))
    (depths.of_cases (depth_called l.sizes) (plain.cases (map tree.case_of (drop l.c-index l.cs))))

-- what is left of the walk

abbrev pub decreases-statement : goal.decreases-statement
decreases-statement l = 5 * height (tree.statement_of l.s.now) + 0

abbrev pub decreases-action : goal.decreases-action
decreases-action l = 5 * height_of_action (tree.action_of l.kind.now) + 4

abbrev pub decreases-statement_if_any : goal.decreases-statement_if_any
decreases-statement_if_any l = 5 * height_of_maybe (tree.maybe_of l.s.now) + 1

abbrev pub decreases-statements : goal.decreases-statements
decreases-statements l = 5 * height_of_statements (plain.statements (map tree.statement_of l.ss.now)) + 1

abbrev pub decreases-branch : goal.decreases-branch
decreases-branch l = 5 * height_of_branch (tree.branch_of l.b.now) + 1

abbrev pub decreases-branches : goal.decreases-branches
decreases-branches l = 5 * height_of_branches (plain.branches (map tree.branch_of l.bs.now)) + 2

abbrev pub decreases-case : goal.decreases-case
decreases-case l = 5 * height_of_case (tree.case_of l.c.now) + 2

abbrev pub decreases-cases : goal.decreases-cases
decreases-cases l = 5 * height_of_cases (plain.cases (map tree.case_of l.cs.now)) + 3
