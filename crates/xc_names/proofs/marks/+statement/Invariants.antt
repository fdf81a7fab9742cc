use Rattle.std.proofs.Common.{◌≡◌, ◌+◌, ◌*◌, ◌++◌, drop, map}
use Rattle.xc_tree.specs.Depth as depths
use Rattle.xc_tree.specs.Names.Marks.{of_statements, of_branches, of_cases}
use Rattle.xc_tree.specs.Plain as plain
use Rattle.xc_tree.specs.Trees.{statement_of, maybe_of, branch_of, case_of}
use Rattle.xc_names.proofs.marks.+statement.Given as goal

abbrev pub invariant-statements-loop-s : goal.invariant-statements-loop-s
invariant-statements-loop-s l =
    l.initial.out ++ of_statements (plain.statements (map statement_of l.ss)) ≡ l.out ++ of_statements (plain.statements (map statement_of (drop l.s-index l.ss)))

abbrev pub invariant-branches-loop-b : goal.invariant-branches-loop-b
invariant-branches-loop-b l =
    l.initial.out ++ of_branches (plain.branches (map branch_of l.bs)) ≡ l.out ++ of_branches (plain.branches (map branch_of (drop l.b-index l.bs)))

abbrev pub invariant-cases-loop-c : goal.invariant-cases-loop-c
invariant-cases-loop-c l =
    l.initial.out ++ of_cases (plain.cases (map case_of l.cs)) ≡ l.out ++ of_cases (plain.cases (map case_of (drop l.c-index l.cs)))

abbrev pub decreases-statement : goal.decreases-statement
decreases-statement l = 4 * depths.of_statement (statement_of l.s.now) + 0

abbrev pub decreases-statement_if_any : goal.decreases-statement_if_any
decreases-statement_if_any l = 4 * depths.of_maybe (maybe_of l.s.now) + 1

abbrev pub decreases-scope : goal.decreases-scope
decreases-scope l = 4 * depths.of_statements (plain.statements (map statement_of l.ss.now)) + 2

abbrev pub decreases-statements : goal.decreases-statements
decreases-statements l = 4 * depths.of_statements (plain.statements (map statement_of l.ss.now)) + 1

abbrev pub decreases-branch : goal.decreases-branch
decreases-branch l = 4 * depths.of_branch (branch_of l.b.now) + 1

abbrev pub decreases-branches : goal.decreases-branches
decreases-branches l = 4 * depths.of_branches (plain.branches (map branch_of l.bs.now)) + 2

abbrev pub decreases-case : goal.decreases-case
decreases-case l = 4 * depths.of_case (case_of l.c.now) + 2

abbrev pub decreases-cases : goal.decreases-cases
decreases-cases l = 4 * depths.of_cases (plain.cases (map case_of l.cs.now)) + 3
