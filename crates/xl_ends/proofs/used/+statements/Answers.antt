use Rattle.std.proofs.Common.{false, ◌||◌, List, Option, map, refl, sym, ap, ap₂, ◌∙◌}
use Rattle.std.proofs.lemmas.List.{at_drop_all}
use Rattle.xc_kernel.specs.declared.statement.Kst.{Kst}
use Rattle.xc_kernel.specs.declared.statement.KBranch.{KBranch}
use Rattle.xc_kernel.specs.declared.statement.KCase.{KCase}
use Rattle.xc_kernel.specs.declared.statement.KSelect.{out-KSelect}
use Rattle.xc_kernel.specs.Kernels.{branch_of, case_of, default_of, expression_of, input_of, output_of, place_of, statement_of}
use Rattle.xc_kernel.specs.Plain as kernel
use Rattle.xc_kernel.specs.Things.{channel, by_branches, by_cases, by_channel, by_resource, by_statements}
use Rattle.xc_kernel.proofs.Forms.{select-KSelect, statement-Block, statement-Exit, statement-If, statement-In, statement-Loop, statement-Out, statement-Par, statement-Select, statement-Set, statement-Tran, statement-Zero}
use Rattle.xc_kernel.proofs.Used.{by_its_resource, by_resource_of, no_expression, no_target}
use Rattle.xl_ends.specs.Uses.{marked}
use Rattle.xl_ends.proofs.Marks.{marks_both, marks_none, or_false}
use Rattle.xl_ends.proofs.Parts.{code_of, next_branch, next_case, next_statement, none_used, past_expression, use_of}
use Rattle.xl_ends.proofs.used.+statements.Goals as goal

pub mark_statements-loop-statement-preserved : goal.mark_statements-loop-statement-preserved
mark_statements-loop-statement-preserved t c =
    next_statement _ _ _ c.args.body.now c.loop-statement.statement-index c.statement-item.result c.statement-item.is c.loop-statement-test.true c.loop-statement.invariant c.mark_statement.ensures

pub mark_statements-returns : goal.mark_statements-returns
mark_statements-returns t c =
    sym (c.loop-statement.invariant
    ∙ at_drop_all (λ (ss : List Kst). marked (λ d. by_statements (channel d) (code_of ss)) c.loop-statement.used) c.args.body.now c.loop-statement.statement-index c.loop-statement-test.false
    ∙ sym (marks_none _ c.loop-statement.used (λ d. refl)))

pub mark_branches-loop-branch-preserved : goal.mark_branches-loop-branch-preserved
mark_branches-loop-branch-preserved t c =
    next_branch _ _ _ c.args.branches.now c.loop-branch.branch-index c.branch-item.result c.as_slice.result.now c.branch-item.is c.loop-branch-test.true c.as_slice.ensures c.loop-branch.invariant c.mark_statements.ensures

pub mark_branches-returns : goal.mark_branches-returns
mark_branches-returns t c =
    sym (c.loop-branch.invariant
    ∙ at_drop_all (λ (bs : List KBranch). marked (λ d. by_branches (channel d) (kernel.branches (map branch_of bs))) c.loop-branch.used) c.args.branches.now c.loop-branch.branch-index c.loop-branch-test.false
    ∙ sym (marks_none _ c.loop-branch.used (λ d. refl)))

pub mark_cases-loop-case-preserved : goal.mark_cases-loop-case-preserved
mark_cases-loop-case-preserved t c =
    next_case _ _ _ c.mark_resource.new.used c.args.cases.now c.loop-case.case-index c.case-item.result c.as_slice.result.now c.case-item.is c.loop-case-test.true c.as_slice.ensures c.loop-case.invariant c.mark_resource.ensures c.mark_statements.ensures

pub mark_cases-returns : goal.mark_cases-returns
mark_cases-returns t c =
    sym (c.loop-case.invariant
    ∙ at_drop_all (λ (cs : List KCase). marked (λ d. by_cases (channel d) (kernel.cases (map case_of cs))) c.loop-case.used) c.args.cases.now c.loop-case.case-index c.loop-case-test.false
    ∙ sym (marks_none _ c.loop-case.used (λ d. refl)))

pub mark_statement-returns-in-Zero : goal.mark_statement-returns-in-Zero
mark_statement-returns-in-Zero t c =
    none_used c.args.used.now _ (kernel.set_zero c.in-Zero.field-0) (ap statement_of c.in-Zero.is ∙ statement-Zero c.in-Zero.field-0) (λ d. refl)

pub mark_statement-returns-in-Set : goal.mark_statement-returns-in-Set
mark_statement-returns-in-Set t c =
    let place = c.in-Set.field-0 in
    let x = c.in-Set.field-1 in
    none_used c.args.used.now _ (kernel.set (place_of place) (expression_of x)) (ap statement_of c.in-Set.is ∙ statement-Set place x)
    (λ d. ap₂ ◌||◌ (no_target d (place_of place)) (no_expression d (expression_of x)))

pub mark_statement-returns-in-Exit : goal.mark_statement-returns-in-Exit
mark_statement-returns-in-Exit t c =
    none_used c.args.used.now _ (kernel.exit c.in-Exit.field-0) (ap statement_of c.in-Exit.is ∙ statement-Exit c.in-Exit.field-0) (λ d. refl)

pub mark_statement-returns-in-Out : goal.mark_statement-returns-in-Out
mark_statement-returns-in-Out t c =
    let o = c.in-Out.output in
    use_of (λ d. by_resource (channel d) o.res) c.args.used.now c.mark_resource.new.used _ (kernel.output (output_of o)) (ap statement_of c.in-Out.is ∙ statement-Out o) c.mark_resource.ensures
    (λ d. sym (by_its_resource d (output_of o)))

pub mark_statement-returns-in-In : goal.mark_statement-returns-in-In
mark_statement-returns-in-In t c =
    let h = c.in-In.input in
    use_of (λ d. by_resource (channel d) h.res) c.args.used.now c.mark_resource-in-In.new.used _ (kernel.input (input_of h)) (ap statement_of c.in-In.is ∙ statement-In h) c.mark_resource-in-In.ensures
    (λ d. sym (by_resource_of d (input_of h)))

pub mark_statement-returns-in-If : goal.mark_statement-returns-in-If
mark_statement-returns-in-If t c =
    let x = expression_of c.in-If.field-0 in
    let a = code_of c.as_slice.result.now in
    let b = code_of c.as_slice-in-If.result.now in
    use_of (λ d. by_statements (channel d) a || by_statements (channel d) b) c.args.used.now c.mark_statements-in-If.new.used _ (kernel.if_then x a b)
    (ap statement_of c.in-If.is ∙ statement-If c.in-If.field-0 c.in-If.first c.in-If.second ∙ ap₂ (λ p q. kernel.if_then x (code_of p) (code_of q)) (sym c.as_slice.ensures) (sym c.as_slice-in-If.ensures))
    (marks_both (λ d. by_statements (channel d) a) (λ d. by_statements (channel d) b) c.args.used.now c.mark_statements.new.used c.mark_statements-in-If.new.used c.mark_statements.ensures c.mark_statements-in-If.ensures)
    (λ d. past_expression d x (by_statements (channel d) a || by_statements (channel d) b))

pub mark_statement-returns-in-Loop : goal.mark_statement-returns-in-Loop
mark_statement-returns-in-Loop t c =
    let x = expression_of c.in-Loop.field-0 in
    let a = code_of c.as_slice-in-Loop.result.now in
    let b = code_of c.as_slice-in-Loop-2.result.now in
    use_of (λ d. by_statements (channel d) a || by_statements (channel d) b) c.args.used.now c.mark_statements-in-Loop-2.new.used _ (kernel.loop x a b)
    (ap statement_of c.in-Loop.is ∙ statement-Loop c.in-Loop.field-0 c.in-Loop.body c.in-Loop.next ∙ ap₂ (λ p q. kernel.loop x (code_of p) (code_of q)) (sym c.as_slice-in-Loop.ensures) (sym c.as_slice-in-Loop-2.ensures))
    (marks_both (λ d. by_statements (channel d) a) (λ d. by_statements (channel d) b) c.args.used.now c.mark_statements-in-Loop.new.used c.mark_statements-in-Loop-2.new.used c.mark_statements-in-Loop.ensures c.mark_statements-in-Loop-2.ensures)
    (λ d. past_expression d x (by_statements (channel d) a || by_statements (channel d) b))

pub mark_statement-returns-in-Tran : goal.mark_statement-returns-in-Tran
mark_statement-returns-in-Tran t c =
    let tran = c.in-Tran in
    let a = code_of c.as_slice-in-Tran.result.now in
    use_of (λ d. by_channel (channel d) tran.chan || by_statements (channel d) a) c.args.used.now c.mark_statements-in-Tran.new.used _ (kernel.transaction tran.chan tran.master a tran.open_at tran.close_at)
    (ap statement_of tran.is ∙ statement-Tran tran.chan tran.master tran.body tran.open_at tran.close_at ∙ ap (λ p. kernel.transaction tran.chan tran.master (code_of p) tran.open_at tran.close_at) (sym c.as_slice-in-Tran.ensures))
    (marks_both (λ d. by_channel (channel d) tran.chan) (λ d. by_statements (channel d) a) c.args.used.now c.mark.new.used c.mark_statements-in-Tran.new.used c.mark.ensures c.mark_statements-in-Tran.ensures)
    (λ d. refl)

pub mark_statement-returns-in-Some : goal.mark_statement-returns-in-Some
mark_statement-returns-in-Some t c =
    let select = c.in-Select.select in
    let cs = kernel.cases (map case_of c.as_slice-in-Select.result.now) in
    let a = code_of c.as_slice-in-Some.result.now in
    let pos = (out-KSelect select).pos in
    use_of (λ d. by_cases (channel d) cs || by_statements (channel d) a) c.args.used.now c.mark_statements-in-Some.new.used _ (kernel.select cs (kernel.default a) pos)
    (ap statement_of c.in-Select.is ∙ statement-Select select ∙ select-KSelect select
    ∙ ap₂ (λ (p : List KCase) (o : Option (List Kst)). kernel.select (kernel.cases (map case_of p)) (default_of o) pos) (sym c.as_slice-in-Select.ensures) c.in-Some.is
    ∙ ap (λ (p : List Kst). kernel.select cs (kernel.default (code_of p)) pos) (sym c.as_slice-in-Some.ensures))
    (marks_both (λ d. by_cases (channel d) cs) (λ d. by_statements (channel d) a) c.args.used.now c.mark_cases.new.used c.mark_statements-in-Some.new.used c.mark_cases.ensures c.mark_statements-in-Some.ensures)
    (λ d. refl)

pub mark_statement-returns-in-None : goal.mark_statement-returns-in-None
mark_statement-returns-in-None t c =
    let select = c.in-Select.select in
    let cs = kernel.cases (map case_of c.as_slice-in-Select.result.now) in
    let pos = (out-KSelect select).pos in
    use_of (λ d. by_cases (channel d) cs) c.args.used.now c.mark_cases.new.used _ (kernel.select cs kernel.no_default pos)
    (ap statement_of c.in-Select.is ∙ statement-Select select ∙ select-KSelect select
    ∙ ap₂ (λ (p : List KCase) (o : Option (List Kst)). kernel.select (kernel.cases (map case_of p)) (default_of o) pos) (sym c.as_slice-in-Select.ensures) c.in-None.is)
    c.mark_cases.ensures (λ d. sym (or_false (by_cases (channel d) cs) false refl))

pub mark_statement-returns-in-Block : goal.mark_statement-returns-in-Block
mark_statement-returns-in-Block t c =
    let n = c.in-Block.field-0 in
    let a = code_of c.as_slice-in-Block.result.now in
    use_of (λ d. by_statements (channel d) a) c.args.used.now c.mark_statements-in-Block.new.used _ (kernel.block n a)
    (ap statement_of c.in-Block.is ∙ statement-Block n c.in-Block.body
    ∙ ap (λ (p : List Kst). kernel.block n (code_of p)) (sym c.as_slice-in-Block.ensures))
    c.mark_statements-in-Block.ensures (λ d. refl)

pub mark_statement-returns-in-Par : goal.mark_statement-returns-in-Par
mark_statement-returns-in-Par t c =
    let bs = kernel.branches (map branch_of c.as_slice-in-Par.result.now) in
    use_of (λ d. by_branches (channel d) bs) c.args.used.now c.mark_branches.new.used _ (kernel.par bs)
    (ap statement_of c.in-Par.is ∙ statement-Par c.in-Par.branches
    ∙ ap (λ (p : List KBranch). kernel.par (kernel.branches (map branch_of p))) (sym c.as_slice-in-Par.ensures))
    c.mark_branches.ensures (λ d. refl)
