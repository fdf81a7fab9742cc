use Rattle.std.proofs.Common.{◌+◌, drop, ◌∷◌, [], ◌++◌, ℕ, List, ap, append-nil, append_assoc, ◌∙◌, sym}
use Rattle.std.proofs.lemmas.List.{at_drop_all}
use Rattle.xc_kernel.specs.Plain as kernel
use Rattle.xc_kernel.specs.declared.statement.KCase.{KCase}
use Rattle.xl_ends.specs.Sides.{sides_of}
use Rattle.xl_select.specs.OpeningCode.{cases_of}
use Rattle.xl_statements.specs.CaseEnds.{case_ends}
use Rattle.xl_statements.proofs.Cases.{cases_at}
use Rattle.xl_statements.proofs.select.ends_of_cases.Goals as goal

pub loop-case-preserved : goal.loop-case-preserved
loop-case-preserved c =
    let ends = case_ends c.args.plan.now.channels (sides_of c.args.sides.now) in
    let rest = ends (cases_of (drop (c.loop-case.case-index + 1) c.args.cases.now)) in
    c.loop-case.invariant
    ∙ ap (λ (cs : kernel.Cases). c.loop-case.ends ++ ends cs) (cases_at c.args.cases.now c.loop-case.case-index c.case-item.result c.case-item.is c.loop-case-test.true)
    ∙ ap (λ (n : ℕ). c.loop-case.ends ++ n ∷ rest) (sym c.end_of_case.ensures)
    ∙ sym (append_assoc c.loop-case.ends (c.end_of_case.result ∷ []) rest)
    ∙ ap (λ (ns : List ℕ). ns ++ rest) (sym c.in_ok-push.ensures.ok)

pub returns : goal.returns
returns c =
    let ends = case_ends c.args.plan.now.channels (sides_of c.args.sides.now) in
    sym (c.loop-case.invariant
    ∙ ap (λ (ns : List ℕ). c.loop-case.ends ++ ns) (at_drop_all (λ (cs : List KCase). ends (cases_of cs)) c.args.cases.now c.loop-case.case-index c.loop-case-test.false)
    ∙ append-nil c.loop-case.ends)
