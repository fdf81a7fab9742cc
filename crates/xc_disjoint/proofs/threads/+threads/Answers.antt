use Rattle.std.proofs.Common.{◌≡◌, List, drop, ◌+◌, ◌-◌, ◌^◌, map, max, min, sym, ap, ◌∙◌, arith}
use Rattle.xc_kernel.specs.declared.statement.Kst.{Kst}
use Rattle.xc_kernel.specs.declared.statement.KBranch.{KBranch}
use Rattle.xc_kernel.specs.declared.statement.KCase.{KCase}
use Rattle.xc_kernel.specs.Kernels.{branch_of, case_of, statement_of}
use Rattle.xc_kernel.specs.Plain as plain
use Rattle.xc_kernel.proofs.Forms.{statement-Zero, statement-Set, statement-Out, statement-In, statement-If, statement-Loop, statement-Block, statement-Exit, statement-Select, statement-Par, statement-Tran, branch-KBranch, case-KCase, select-KSelect}
use Rattle.xc_disjoint.specs.Sums.{capped}
use Rattle.xc_disjoint.specs.Threads.{of_branch, of_branches, of_case, of_cases, of_statement, of_statements}
use Rattle.std.proofs.lemmas.List.{drop_all}
use Rattle.xc_disjoint.proofs.ThreadSteps.{capped_one, capped_max, greater, added, added_none, statements_step, branches_step, cases_step}
use Rattle.xc_disjoint.proofs.threads.+threads.Goals as goal

pub of_sequence-loop-s-preserved : goal.of_sequence-loop-s-preserved
of_sequence-loop-s-preserved t c =
    let ss = c.args.ss.now in
    let at = c.loop-s.s-index in
    c.loop-s.invariant
    ∙ ap (λ n. max c.loop-s.most (capped n)) (statements_step ss at c.s-item.result c.s-item.is c.loop-s-test.true)
    ∙ greater c.loop-s.most c.max-most.result c.of_one.result (of_statement (statement_of c.s-item.result)) (of_statements (plain.statements (map statement_of (drop (at + 1) ss)))) c.of_one.ensures c.max-most.ensures

pub of_all_cases-loop-case-preserved : goal.of_all_cases-loop-case-preserved
of_all_cases-loop-case-preserved t c =
    let cases = c.args.cases.now in
    let at = c.loop-case.case-index in
    c.loop-case.invariant
    ∙ ap (λ n. max c.loop-case.most (capped n)) (cases_step cases at c.case-item.result c.case-item.is c.loop-case-test.true)
    ∙ greater c.loop-case.most c.max-most.result c.of_one_case.result (of_case (case_of c.case-item.result)) (of_cases (plain.cases (map case_of (drop (at + 1) cases)))) c.of_one_case.ensures c.max-most.ensures

pub of_sequence-returns : goal.of_sequence-returns
of_sequence-returns t c =
    c.max.ensures
    ∙ sym (c.loop-s.invariant
    ∙ ap (λ (ss : List Kst). max c.loop-s.most (capped (of_statements (plain.statements (map statement_of ss))))) (drop_all c.loop-s.s-index c.args.ss.now c.loop-s-test.false)
    ∙ ap (max c.loop-s.most) capped_one)

pub of_all_cases-returns : goal.of_all_cases-returns
of_all_cases-returns t c =
    c.max.ensures
    ∙ sym (c.loop-case.invariant
    ∙ ap (λ (cs : List KCase). max c.loop-case.most (capped (of_cases (plain.cases (map case_of cs))))) (drop_all c.loop-case.case-index c.args.cases.now c.loop-case-test.false)
    ∙ ap (max c.loop-case.most) capped_one)

pub of_one_case-returns : goal.of_one_case-returns
of_one_case-returns t c = rw (case-KCase, ← c.as_slice.ensures) c.of_sequence.ensures

pub of_one-returns-in-Zero : goal.of_one-returns-in-Zero
of_one-returns-in-Zero t c = rw (c.in-Zero.is, statement-Zero) (sym capped_one)

pub of_one-returns-in-Set : goal.of_one-returns-in-Set
of_one-returns-in-Set t c = rw (c.in-Set.is, statement-Set) (sym capped_one)

pub of_one-returns-in-Out : goal.of_one-returns-in-Out
of_one-returns-in-Out t c = rw (c.in-Out.is, statement-Out) (sym capped_one)

pub of_one-returns-in-In : goal.of_one-returns-in-In
of_one-returns-in-In t c = rw (c.in-In.is, statement-In) (sym capped_one)

pub of_one-returns-in-Exit : goal.of_one-returns-in-Exit
of_one-returns-in-Exit t c = rw (c.in-Exit.is, statement-Exit) (sym capped_one)

pub of_one-returns-in-If : goal.of_one-returns-in-If
of_one-returns-in-If t c =
    rw (c.in-If.is, statement-If, capped_max, ← c.as_slice.ensures, ← c.of_sequence.ensures, ← c.as_slice-in-If.ensures, ← c.of_sequence-in-If.ensures) c.max.ensures

pub of_one-returns-in-Loop : goal.of_one-returns-in-Loop
of_one-returns-in-Loop t c =
    rw (c.in-Loop.is, statement-Loop, capped_max, ← c.as_slice-in-Loop.ensures, ← c.of_sequence-in-Loop.ensures, ← c.as_slice-in-Loop-2.ensures, ← c.of_sequence-in-Loop-2.ensures) c.max-in-Loop.ensures

pub of_one-returns-in-Block : goal.of_one-returns-in-Block
of_one-returns-in-Block t c = rw (c.in-Block.is, statement-Block, ← c.as_slice-in-Block.ensures) c.of_sequence-in-Block.ensures

pub of_one-returns-in-None : goal.of_one-returns-in-None
of_one-returns-in-None t c =
    rw (c.in-Select.is, statement-Select, select-KSelect, c.in-None.is, capped_max, capped_one, ← c.as_slice-in-Select.ensures, ← c.of_all_cases-cases.ensures) c.max-in-None.ensures

pub of_one-returns-in-Some : goal.of_one-returns-in-Some
of_one-returns-in-Some t c =
    rw (c.in-Select.is, statement-Select, select-KSelect, c.in-Some.is, capped_max, ← c.as_slice-in-Select.ensures, ← c.of_all_cases-cases.ensures, ← c.as_slice-in-Some.ensures, ← c.of_sequence-in-Some.ensures) c.max-in-Some.ensures

pub of_one-returns-in-Par : goal.of_one-returns-in-Par
of_one-returns-in-Par t c =
    rw (c.in-Par.is, statement-Par, capped_max, capped_one, ← c.as_slice-in-Par.ensures, ← c.of_all_branches.ensures) c.max-in-Par.ensures

pub of_one-returns-in-Tran : goal.of_one-returns-in-Tran
of_one-returns-in-Tran t c = rw (c.in-Tran.is, statement-Tran, ← c.as_slice-in-Tran.ensures) c.of_sequence-in-Tran.ensures

pub of_all_branches-loop-branch-preserved : goal.of_all_branches-loop-branch-preserved
of_all_branches-loop-branch-preserved t c =
    let branches = c.args.branches.now in
    let at = c.loop-branch.branch-index in
    let body = of_statements (plain.statements (map statement_of c.branch-item.result.body)) in
    let own : c.of_sequence.result ≡ capped body = c.of_sequence.ensures ∙ ap (λ (ss : List Kst). capped (of_statements (plain.statements (map statement_of ss)))) c.as_slice.ensures in (
      c.loop-branch.invariant.0
          ∙ ap (λ n. min (c.loop-branch.sum + capped n) (2 ^ 64 - 1)) (branches_step branches at c.branch-item.result c.branch-item.is c.loop-branch-test.true ∙ ap (λ b. of_branch b + of_branches (plain.branches (map branch_of (drop (at + 1) branches)))) (branch-KBranch c.branch-item.result))
          ∙ added c.loop-branch.sum c.saturating_add-sum.result c.of_sequence.result body (of_branches (plain.branches (map branch_of (drop (at + 1) branches)))) own c.saturating_add-sum.ensures,
      omega arith,
    )

pub of_all_branches-returns : goal.of_all_branches-returns
of_all_branches-returns t c =
    sym (c.loop-branch.invariant.0
    ∙ ap (λ (bs : List KBranch). min (c.loop-branch.sum + capped (of_branches (plain.branches (map branch_of bs)))) (2 ^ 64 - 1)) (drop_all c.loop-branch.branch-index c.args.branches.now c.loop-branch-test.false)
    ∙ added_none c.loop-branch.sum c.loop-branch.invariant.1)

pub of_all_branches-loop-branch-init : goal.of_all_branches-loop-branch-init
unfolding capped
of_all_branches-loop-branch-init t c = (omega arith, omega arith)
