use Rattle.std.proofs.Common.{◌≡◌, ◌+◌, ◌*◌, drop, map, max}
use Rattle.xc_tree.specs.Names.Marks as marks
use Rattle.xc_tree.specs.Plain as plain
use Rattle.xc_tree.specs.Trees.{branch_of, case_of, maybe_of, statement_of}
use Rattle.xc_tree.specs.Types.Named.{named_of}
use Rattle.xc_tree.specs.Types.Sites as sites
use Rattle.xc_types.specs.Enclosing.{around_of}
use Rattle.xc_types.specs.Checker.{saw}
use Rattle.xc_tree.specs.Heights.{height, height_of_maybe, height_of_statements, height_of_branch, height_of_branches, height_of_case, height_of_cases}
use Rattle.xc_types.proofs.statements.+statement.Given as goal

abbrev pub invariant-statements-loop-s : goal.invariant-statements-loop-s
invariant-statements-loop-s l =
    saw l.initial.found (marks.of_statements (plain.statements (map statement_of l.ss))) (sites.of_statements (named_of l.named) (around_of l.around) l.initial.found.names (plain.statements (map statement_of l.ss)))
    ≡ saw l.found (marks.of_statements (plain.statements (map statement_of (drop l.s-index l.ss)))) (sites.of_statements (named_of l.named) (around_of l.around) l.found.names (plain.statements (map statement_of (drop l.s-index l.ss))))

abbrev pub invariant-branches-loop-b : goal.invariant-branches-loop-b
invariant-branches-loop-b l =
    saw l.initial.found (marks.of_branches (plain.branches (map branch_of l.bs))) (sites.of_branches (named_of l.named) (around_of l.around) l.initial.found.names (plain.branches (map branch_of l.bs)))
    ≡ saw l.found (marks.of_branches (plain.branches (map branch_of (drop l.b-index l.bs)))) (sites.of_branches (named_of l.named) (around_of l.around) l.found.names (plain.branches (map branch_of (drop l.b-index l.bs))))

abbrev pub invariant-cases-loop-c : goal.invariant-cases-loop-c
invariant-cases-loop-c l =
    saw l.initial.found (marks.of_cases (plain.cases (map case_of l.cs))) (sites.of_cases (named_of l.named) (around_of l.around) l.initial.found.names (plain.cases (map case_of l.cs)))
    ≡ saw l.found (marks.of_cases (plain.cases (map case_of (drop l.c-index l.cs)))) (sites.of_cases (named_of l.named) (around_of l.around) l.found.names (plain.cases (map case_of (drop l.c-index l.cs))))

-- what is left of the walk

abbrev pub decreases-statement : goal.decreases-statement
decreases-statement l = 5 * height (statement_of l.s.now) + 0

abbrev pub decreases-statement_if_any : goal.decreases-statement_if_any
decreases-statement_if_any l = 5 * height_of_maybe (maybe_of l.s.now) + 1

abbrev pub decreases-statements : goal.decreases-statements
decreases-statements l = 5 * height_of_statements (plain.statements (map statement_of l.ss.now)) + 1

abbrev pub decreases-transaction : goal.decreases-transaction
decreases-transaction l = 5 * height_of_statements (plain.statements (map statement_of l.ss.now)) + 2

abbrev pub decreases-branch : goal.decreases-branch
decreases-branch l = 5 * height_of_branch (branch_of l.b.now) + 1

abbrev pub decreases-branches : goal.decreases-branches
decreases-branches l = 5 * height_of_branches (plain.branches (map branch_of l.bs.now)) + 2

abbrev pub decreases-case : goal.decreases-case
decreases-case l = 5 * height_of_case (case_of l.c.now) + 2

abbrev pub decreases-cases : goal.decreases-cases
decreases-cases l = 5 * height_of_cases (plain.cases (map case_of l.cs.now)) + 3

abbrev pub decreases-choice : goal.decreases-choice
decreases-choice l = 5 * max (height (statement_of l.then.now)) (height_of_maybe (maybe_of l.otherwise.now)) + 2

abbrev pub decreases-for_loop : goal.decreases-for_loop
decreases-for_loop l = 5 * max (height_of_maybe (maybe_of l.first.now)) (max (height_of_maybe (maybe_of l.step.now)) (height (statement_of l.body.now))) + 2
