use Rattle.std.proofs.Common.{◌≡◌, drop, map}
use Rattle.xc_disjoint.specs.Uses.{all_after, of_cases, of_statements, with_branches}
use Rattle.xc_disjoint.specs.UseTables.{shares_in, uses_in}
use Rattle.xc_kernel.specs.Kernels.{branch_of, case_of, statement_of}
use Rattle.xc_kernel.specs.Plain as plain
use Rattle.xc_disjoint.proofs.channel_uses.+channels.Given as goal

abbrev pub invariant-statements-loop-s : goal.invariant-statements-loop-s
invariant-statements-loop-s l =
    all_after (uses_in l.initial.table) (of_statements (plain.statements (map statement_of l.ss))) ≡ all_after (uses_in l.table) (of_statements (plain.statements (map statement_of (drop l.s-index l.ss))))

abbrev pub invariant-cases-loop-c : goal.invariant-cases-loop-c
invariant-cases-loop-c l =
    all_after (uses_in l.initial.table) (of_cases (plain.cases (map case_of l.all))) ≡ all_after (uses_in l.table) (of_cases (plain.cases (map case_of (drop l.c-index l.all))))

abbrev pub invariant-branches-loop-b : goal.invariant-branches-loop-b
invariant-branches-loop-b l =
    with_branches (shares_in l.initial.par) (plain.branches (map branch_of l.all)) ≡ with_branches (shares_in l.par) (plain.branches (map branch_of (drop l.b-index l.all)))
