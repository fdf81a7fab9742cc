use Rattle.std.proofs.Common.{◌≡◌, drop, map}
use Rattle.xc_disjoint.specs.Leasts.{first_among}
use Rattle.xc_disjoint.specs.Places.{rule_of_use}
use Rattle.xc_kernel.specs.Uses.{of_branches, of_cases, of_statements}
use Rattle.xc_kernel.specs.Kernels.{branch_of, case_of, statement_of}
use Rattle.xc_kernel.specs.Plain as plain
use Rattle.xc_disjoint.proofs.ports.Here.+uses.Given as goal

abbrev pub invariant-in_statements-loop-s : goal.invariant-in_statements-loop-s
invariant-in_statements-loop-s l =
    first_among (rule_of_use l.self.ports.now l.self.core) l.initial.best (of_statements (plain.statements (map statement_of l.ss))) ≡ first_among (rule_of_use l.self.ports.now l.self.core) l.best (of_statements (plain.statements (map statement_of (drop l.s-index l.ss))))

abbrev pub invariant-in_cases-loop-c : goal.invariant-in_cases-loop-c
invariant-in_cases-loop-c l =
    first_among (rule_of_use l.self.ports.now l.self.core) l.initial.best (of_cases (plain.cases (map case_of l.cases))) ≡ first_among (rule_of_use l.self.ports.now l.self.core) l.best (of_cases (plain.cases (map case_of (drop l.c-index l.cases))))

abbrev pub invariant-in_branches-loop-b : goal.invariant-in_branches-loop-b
invariant-in_branches-loop-b l =
    first_among (rule_of_use l.self.ports.now l.self.core) l.initial.best (of_branches (plain.branches (map branch_of l.branches))) ≡ first_among (rule_of_use l.self.ports.now l.self.core) l.best (of_branches (plain.branches (map branch_of (drop l.b-index l.branches))))
