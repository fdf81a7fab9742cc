use Rattle.std.proofs.Common.{◌≡◌, ◌+◌, List, [], drop, map, sym, ap, subst, ◌∙◌}
use Rattle.xc_tree.specs.Least.{IsLeastOf}
use Rattle.xc_tree.proofs.Leasts.{either}
use Rattle.xc_kernel.specs.declared.statement.Kst.{Kst}
use Rattle.xc_kernel.specs.declared.statement.KCase.{KCase}
use Rattle.xc_kernel.specs.declared.statement.KBranch.{KBranch}
use Rattle.xc_kernel.specs.Kernels.{branch_of, case_of, statement_of}
use Rattle.xc_kernel.specs.Pars as pars
use Rattle.xc_kernel.specs.Plain as plain
use Rattle.xc_disjoint.specs.Behind.{ClashesAt, ClashesBy, ClashesBehind}
use Rattle.xc_disjoint.specs.Clashes.{Clashes}
use Rattle.xc_disjoint.specs.Footprints.{Uses, both, uses_in, of_branches, of_cases, of_statements}
use Rattle.xc_disjoint.proofs.FirstSoFar.{Goes, goes_end}
use Rattle.xc_disjoint.proofs.Clashing.{no_clash, statements_go, cases_go, branches_go, statements_more, cases_more, branches_next}
use Rattle.xc_disjoint.proofs.FootprintSteps.{both_nothing, nothing_both, both_each}
use Rattle.std.proofs.lemmas.List.{drop_all}
use Rattle.xc_disjoint.proofs.clashes.+statements.Goals as goal

pub statements-returns-clause-uses : goal.statements-returns-clause-uses
statements-returns-clause-uses t c =
    sym (c.loop-s.invariant.0
    ∙ ap (λ (xs : List Kst). both (uses_in c.loop-s.footprint) (of_statements (plain.statements (map statement_of xs)))) (drop_all c.loop-s.s-index c.args.all.now c.loop-s-test.false)
    ∙ both_nothing (uses_in c.loop-s.footprint))

pub cases-returns-clause-uses : goal.cases-returns-clause-uses
cases-returns-clause-uses t c =
    sym (c.loop-c.invariant.0
    ∙ ap (λ (xs : List KCase). both (uses_in c.loop-c.footprint) (of_cases (plain.cases (map case_of xs)))) (drop_all c.loop-c.c-index c.args.all.now c.loop-c-test.false)
    ∙ both_nothing (uses_in c.loop-c.footprint))

pub branches-returns-clause-uses : goal.branches-returns-clause-uses
branches-returns-clause-uses t c =
    sym (c.loop-b.invariant.0
    ∙ ap (λ (xs : List KBranch). both (uses_in c.loop-b.whole) (of_branches (plain.branches (map branch_of xs)))) (drop_all c.loop-b.b-index c.args.all.now c.loop-b-test.false)
    ∙ both_nothing (uses_in c.loop-b.whole))

pub statements-returns-clause-first : goal.statements-returns-clause-first
statements-returns-clause-first t c =
    goes_end (Clashes (pars.of_statements (plain.statements (map statement_of c.args.all.now)))) (Clashes []) c.loop-s.best no_clash
    (subst (λ (xs : List Kst). Goes (Clashes (pars.of_statements (plain.statements (map statement_of c.args.all.now)))) (Clashes (pars.of_statements (plain.statements (map statement_of xs)))) c.loop-s.best) (drop_all c.loop-s.s-index c.args.all.now c.loop-s-test.false) c.loop-s.invariant.1)

pub cases-returns-clause-first : goal.cases-returns-clause-first
cases-returns-clause-first t c =
    goes_end (Clashes (pars.of_cases (plain.cases (map case_of c.args.all.now)))) (Clashes []) c.loop-c.best no_clash
    (subst (λ (xs : List KCase). Goes (Clashes (pars.of_cases (plain.cases (map case_of c.args.all.now)))) (Clashes (pars.of_cases (plain.cases (map case_of xs)))) c.loop-c.best) (drop_all c.loop-c.c-index c.args.all.now c.loop-c-test.false) c.loop-c.invariant.1)

pub branches-returns-clause-first : goal.branches-returns-clause-first
branches-returns-clause-first t c =
    goes_end (ClashesBehind (uses_in c.args.whole.now) (plain.branches (map branch_of c.args.all.now))) (ClashesBehind (uses_in c.loop-b.whole) plain.no_branch) c.loop-b.best (λ b h. h)
    (subst (λ (xs : List KBranch). Goes (ClashesBehind (uses_in c.args.whole.now) (plain.branches (map branch_of c.args.all.now))) (ClashesBehind (uses_in c.loop-b.whole) (plain.branches (map branch_of xs))) c.loop-b.best) (drop_all c.loop-b.b-index c.args.all.now c.loop-b-test.false) c.loop-b.invariant.1)

pub behind-returns-clause-first : goal.behind-returns-clause-first
behind-returns-clause-first t c =
    let body = plain.statements (map statement_of c.args.body.now) in
    let own : uses_in c.statements.new.footprint ≡ of_statements body = c.in_ok-inside.ensures.uses ∙ ap (λ (f : Uses). both f (of_statements body)) c.requires ∙ nothing_both (of_statements body) in
    rw c.earlier.ensures
    (either (ClashesAt (uses_in c.args.whole.now) (of_statements body) c.args.pos) (Clashes (pars.of_statements body)) c.clash-here.result c.in_ok-inside.inside
    (subst (λ (f : Uses). IsLeastOf (ClashesAt (uses_in c.args.whole.now) f c.args.pos) c.clash-here.result) own c.clash-here.ensures)
    c.in_ok-inside.ensures.first)

pub statements-loop-s-preserved : goal.statements-loop-s-preserved
statements-loop-s-preserved t c = (
  c.loop-s.invariant.0
      ∙ statements_more (uses_in c.loop-s.footprint) (uses_in c.statement.new.footprint) c.args.all.now c.loop-s.s-index c.s-item.result c.s-item.is c.loop-s-test.true c.in_ok-clash.ensures.uses,
  rw c.earlier-best.ensures
      (statements_go (Clashes (pars.of_statements (plain.statements (map statement_of c.args.all.now)))) c.args.all.now c.loop-s.s-index c.s-item.result c.s-item.is c.loop-s-test.true c.loop-s.best c.in_ok-clash.clash c.in_ok-clash.ensures.first c.loop-s.invariant.1),
)

pub cases-loop-c-preserved : goal.cases-loop-c-preserved
cases-loop-c-preserved t c = (
  c.loop-c.invariant.0
      ∙ cases_more (uses_in c.loop-c.footprint) (uses_in c.case.new.footprint) c.args.all.now c.loop-c.c-index c.c-item.result c.c-item.is c.loop-c-test.true c.in_ok-clash.ensures.uses,
  rw c.earlier-best.ensures
      (cases_go (Clashes (pars.of_cases (plain.cases (map case_of c.args.all.now)))) c.args.all.now c.loop-c.c-index c.c-item.result c.c-item.is c.loop-c-test.true c.loop-c.best c.in_ok-clash.clash c.in_ok-clash.ensures.first c.loop-c.invariant.1),
)

pub branches-loop-b-preserved : goal.branches-loop-b-preserved
branches-loop-b-preserved t c =
    let body = plain.statements (map statement_of c.b-item.result.body) in
    let after : uses_in c.branch-alloc.new.whole ≡ both (uses_in c.loop-b.whole) (of_statements body) = c.in_ok-clash.ensures.uses ∙ ap (λ (xs : List Kst). both (uses_in c.loop-b.whole) (of_statements (plain.statements (map statement_of xs)))) c.as_slice.ensures in
    let first : IsLeastOf (ClashesBy (uses_in c.loop-b.whole) body c.b-item.result.pos) c.in_ok-clash.clash = subst (λ (xs : List Kst). IsLeastOf (ClashesBy (uses_in c.loop-b.whole) (plain.statements (map statement_of xs)) c.b-item.result.pos) c.in_ok-clash.clash) c.as_slice.ensures c.in_ok-clash.ensures.first in
    let next = branches_next c.args.all.now c.loop-b.b-index c.b-item.result c.b-item.is c.loop-b-test.true in (
      c.loop-b.invariant.0
          ∙ ap (λ (bs : plain.Branches). both (uses_in c.loop-b.whole) (of_branches bs)) next
          ∙ sym (both_each (uses_in c.loop-b.whole) (of_statements body) (of_branches (plain.branches (map branch_of (drop (c.loop-b.b-index + 1) c.args.all.now)))))
          ∙ ap (λ (f : Uses). both f (of_branches (plain.branches (map branch_of (drop (c.loop-b.b-index + 1) c.args.all.now))))) (sym after),
      rw c.earlier-best.ensures
          (branches_go (ClashesBehind (uses_in c.args.whole.now) (plain.branches (map branch_of c.args.all.now))) (plain.branches (map branch_of (drop (c.loop-b.b-index + 1) c.args.all.now))) (uses_in c.loop-b.whole) (uses_in c.branch-alloc.new.whole) body c.b-item.result.pos after c.loop-b.best c.in_ok-clash.clash first
          (subst (λ (bs : plain.Branches). Goes (ClashesBehind (uses_in c.args.whole.now) (plain.branches (map branch_of c.args.all.now))) (ClashesBehind (uses_in c.loop-b.whole) bs) c.loop-b.best) next c.loop-b.invariant.1)),
    )
