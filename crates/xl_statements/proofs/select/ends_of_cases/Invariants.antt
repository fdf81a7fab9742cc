use Rattle.std.proofs.Common.{◌≡◌, ◌++◌, drop}
use Rattle.xl_ends.specs.Sides.{sides_of}
use Rattle.xl_select.specs.OpeningCode.{cases_of}
use Rattle.xl_statements.specs.CaseEnds.{case_ends}
use Rattle.xl_statements.proofs.select.ends_of_cases.Given as goal

-- the ends so far, and then those of the cases that are left, are those of all
abbrev pub invariant-loop-case : goal.invariant-loop-case
invariant-loop-case l =
    case_ends l.plan.channels (sides_of l.sides) (cases_of l.cases)
    ≡ l.ends ++ case_ends l.plan.channels (sides_of l.sides) (cases_of (drop l.case-index l.cases))
