use Rattle.std.proofs.Common.{◌≡◌, drop, map}
use Rattle.xc_kernel.specs.Kernels.{branch_of, case_of, statement_of}
use Rattle.xc_kernel.specs.Pars as pars
use Rattle.xc_kernel.specs.Plain as plain
use Rattle.xc_disjoint.specs.Behind.{ClashesBehind}
use Rattle.xc_disjoint.specs.Clashes.{Clashes}
use Rattle.xc_disjoint.specs.Footprints.{both, uses_in, of_branches, of_cases, of_statements}
use Rattle.xc_disjoint.proofs.FirstSoFar.{Goes}
use Rattle.xc_disjoint.proofs.clashes.+statements.Given as goal

abbrev pub invariant-branches-loop-b : goal.invariant-branches-loop-b
invariant-branches-loop-b l =
    (both (uses_in l.initial.whole) (of_branches (plain.branches (map branch_of l.all))) ≡ both (uses_in l.whole) (of_branches (plain.branches (map branch_of (drop l.b-index l.all)))))
    × Goes (ClashesBehind (uses_in l.initial.whole) (plain.branches (map branch_of l.all))) (ClashesBehind (uses_in l.whole) (plain.branches (map branch_of (drop l.b-index l.all)))) l.best

abbrev pub invariant-cases-loop-c : goal.invariant-cases-loop-c
invariant-cases-loop-c l =
    (both (uses_in l.initial.footprint) (of_cases (plain.cases (map case_of l.all))) ≡ both (uses_in l.footprint) (of_cases (plain.cases (map case_of (drop l.c-index l.all)))))
    × Goes (Clashes (pars.of_cases (plain.cases (map case_of l.all)))) (Clashes (pars.of_cases (plain.cases (map case_of (drop l.c-index l.all))))) l.best

abbrev pub invariant-statements-loop-s : goal.invariant-statements-loop-s
invariant-statements-loop-s l =
    (both (uses_in l.initial.footprint) (of_statements (plain.statements (map statement_of l.all))) ≡ both (uses_in l.footprint) (of_statements (plain.statements (map statement_of (drop l.s-index l.all)))))
    × Goes (Clashes (pars.of_statements (plain.statements (map statement_of l.all)))) (Clashes (pars.of_statements (plain.statements (map statement_of (drop l.s-index l.all))))) l.best
