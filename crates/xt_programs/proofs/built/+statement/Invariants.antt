use Rattle.std.proofs.Common.{drop}
use Rattle.xl_select.specs.OpeningCode.{cases_of}
use Rattle.xl_statements.specs.Built.{AreBuilt, BranchesAreBuilt, CasesAreBuilt, branches_of, statements_of}
use Rattle.xt_programs.proofs.built.+statement.Given as goal

-- the code of all is built where that of those that are left is
abbrev pub invariant-are_built-loop-statement : goal.invariant-are_built-loop-statement
invariant-are_built-loop-statement l = AreBuilt (statements_of (drop l.statement-index l.statements)) → AreBuilt (statements_of l.statements)

abbrev pub invariant-are_branches_built-loop-branch : goal.invariant-are_branches_built-loop-branch
invariant-are_branches_built-loop-branch l = BranchesAreBuilt (branches_of (drop l.branch-index l.branches)) → BranchesAreBuilt (branches_of l.branches)

abbrev pub invariant-are_cases_built-loop-case : goal.invariant-are_cases_built-loop-case
invariant-are_cases_built-loop-case l = CasesAreBuilt (cases_of (drop l.case-index l.cases)) → CasesAreBuilt (cases_of l.cases)
