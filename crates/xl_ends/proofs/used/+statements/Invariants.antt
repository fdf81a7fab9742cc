use Rattle.std.proofs.Common.{◌≡◌, drop, map}
use Rattle.xc_kernel.specs.Kernels.{branch_of, case_of, statement_of}
use Rattle.xc_kernel.specs.Plain as kernel
use Rattle.xc_kernel.specs.Things.{channel, by_branches, by_cases, by_statements}
use Rattle.xl_ends.specs.Uses.{marked}
use Rattle.xl_ends.proofs.used.+statements.Given as goal

abbrev pub invariant-mark_statements-loop-statement : goal.invariant-mark_statements-loop-statement
invariant-mark_statements-loop-statement l =
    marked (λ d. by_statements (channel d) (kernel.statements (map statement_of l.body))) l.initial.used
    ≡ marked (λ d. by_statements (channel d) (kernel.statements (map statement_of (drop l.statement-index l.body)))) l.used

abbrev pub invariant-mark_cases-loop-case : goal.invariant-mark_cases-loop-case
invariant-mark_cases-loop-case l =
    marked (λ d. by_cases (channel d) (kernel.cases (map case_of l.cases))) l.initial.used
    ≡ marked (λ d. by_cases (channel d) (kernel.cases (map case_of (drop l.case-index l.cases)))) l.used

abbrev pub invariant-mark_branches-loop-branch : goal.invariant-mark_branches-loop-branch
invariant-mark_branches-loop-branch l =
    marked (λ d. by_branches (channel d) (kernel.branches (map branch_of l.branches))) l.initial.used
    ≡ marked (λ d. by_branches (channel d) (kernel.branches (map branch_of (drop l.branch-index l.branches)))) l.used
