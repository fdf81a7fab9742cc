use Rattle.std.proofs.Common.{List, map, sym, ap, ◌∙◌}
use Rattle.xc_kernel.specs.declared.statement.Kst.{Kst}
use Rattle.xc_kernel.specs.declared.statement.KBranch.{KBranch}
use Rattle.xc_kernel.specs.declared.statement.KCase.{KCase}
use Rattle.xc_kernel.specs.Kernels.{branch_of, case_of, statement_of}
use Rattle.xc_kernel.specs.Plain as plain
use Rattle.xc_kernel.specs.Uses.{of_branches, of_cases, of_statements}
use Rattle.xc_kernel.proofs.Forms.{statement-Zero, statement-Set, statement-Out, statement-In, statement-If, statement-Loop, statement-Block, statement-Exit, statement-Select, statement-Par, statement-Tran, branch-KBranch, case-KCase, select-KSelect}
use Rattle.xc_disjoint.specs.Leasts.{first_among}
use Rattle.xc_disjoint.specs.Places.{rule_of_use}
use Rattle.std.proofs.lemmas.List.{drop_all}
use Rattle.xc_disjoint.proofs.UseSteps.{first_append, channel_step, statements_step, cases_step, branches_step}
use Rattle.xc_disjoint.proofs.ports.Here.+uses.Goals as goal

pub in_statements-returns : goal.in_statements-returns
in_statements-returns t c =
    sym (c.loop-s.invariant
    ∙ ap (λ (ss : List Kst). first_among (rule_of_use c.args.self.now.ports.now c.args.self.now.core) c.loop-s.best (of_statements (plain.statements (map statement_of ss)))) (drop_all c.loop-s.s-index c.args.ss.now c.loop-s-test.false))

pub in_cases-returns : goal.in_cases-returns
in_cases-returns t c =
    sym (c.loop-c.invariant
    ∙ ap (λ (cs : List KCase). first_among (rule_of_use c.args.self.now.ports.now c.args.self.now.core) c.loop-c.best (of_cases (plain.cases (map case_of cs)))) (drop_all c.loop-c.c-index c.args.cases.now c.loop-c-test.false))

pub in_branches-returns : goal.in_branches-returns
in_branches-returns t c =
    sym (c.loop-b.invariant
    ∙ ap (λ (bs : List KBranch). first_among (rule_of_use c.args.self.now.ports.now c.args.self.now.core) c.loop-b.best (of_branches (plain.branches (map branch_of bs)))) (drop_all c.loop-b.b-index c.args.branches.now c.loop-b-test.false))

pub in_statements-loop-s-preserved : goal.in_statements-loop-s-preserved
in_statements-loop-s-preserved t c =
    c.loop-s.invariant
    ∙ rw (statements_step (rule_of_use c.args.self.now.ports.now c.args.self.now.core) c.loop-s.best c.args.ss.now c.loop-s.s-index c.s-item.result c.s-item.is c.loop-s-test.true, ← c.in_statement-best.ensures)

pub in_cases-loop-c-preserved : goal.in_cases-loop-c-preserved
in_cases-loop-c-preserved t c =
    c.loop-c.invariant
    ∙ rw (cases_step (rule_of_use c.args.self.now.ports.now c.args.self.now.core) c.loop-c.best c.args.cases.now c.loop-c.c-index c.c-item.result c.c-item.is c.loop-c-test.true, ← c.in_case-best.ensures)

pub in_branches-loop-b-preserved : goal.in_branches-loop-b-preserved
in_branches-loop-b-preserved t c =
    c.loop-b.invariant
    ∙ rw (branches_step (rule_of_use c.args.self.now.ports.now c.args.self.now.core) c.loop-b.best c.args.branches.now c.loop-b.b-index c.b-item.result c.b-item.is c.loop-b-test.true, ← c.in_branch-best.ensures)

pub in_case-returns : goal.in_case-returns
in_case-returns t c = rw (case-KCase, ← c.at_use.ensures, ← c.earlier-best.ensures, ← c.as_slice.ensures) c.in_statements.ensures

pub in_branch-returns : goal.in_branch-returns
in_branch-returns t c = rw (branch-KBranch, ← c.as_slice.ensures) c.in_statements.ensures

pub in_statement-returns-in-Zero : goal.in_statement-returns-in-Zero
in_statement-returns-in-Zero t c = rw (c.in-Zero.is, statement-Zero)

pub in_statement-returns-in-Set : goal.in_statement-returns-in-Set
in_statement-returns-in-Set t c = rw (c.in-Set.is, statement-Set)

pub in_statement-returns-in-Exit : goal.in_statement-returns-in-Exit
in_statement-returns-in-Exit t c = rw (c.in-Exit.is, statement-Exit)

pub in_statement-returns-in-Out : goal.in_statement-returns-in-Out
in_statement-returns-in-Out t c = rw (c.in-Out.is, statement-Out, ← c.at_use.ensures) c.earlier.ensures

pub in_statement-returns-in-In : goal.in_statement-returns-in-In
in_statement-returns-in-In t c = rw (c.in-In.is, statement-In, ← c.at_use-in-In.ensures) c.earlier-in-In.ensures

pub in_statement-returns-in-If : goal.in_statement-returns-in-If
in_statement-returns-in-If t c =
    rw (c.in-If.is, statement-If, first_append, ← c.as_slice.ensures, ← c.in_statements-best.ensures, ← c.as_slice-in-If.ensures) c.in_statements.ensures

pub in_statement-returns-in-Loop : goal.in_statement-returns-in-Loop
in_statement-returns-in-Loop t c =
    rw (c.in-Loop.is, statement-Loop, first_append, ← c.as_slice-in-Loop.ensures, ← c.in_statements-best-in-Loop.ensures, ← c.as_slice-in-Loop-2.ensures) c.in_statements-in-Loop.ensures

pub in_statement-returns-in-Block : goal.in_statement-returns-in-Block
in_statement-returns-in-Block t c = rw (c.in-Block.is, statement-Block, ← c.as_slice-in-Block.ensures) c.in_statements-in-Block.ensures

pub in_statement-returns-in-None : goal.in_statement-returns-in-None
in_statement-returns-in-None t c =
    rw (c.in-Select.is, statement-Select, select-KSelect, c.in-None.is, first_append, ← c.as_slice-in-Select.ensures) c.in_cases-best.ensures

pub in_statement-returns-in-Some : goal.in_statement-returns-in-Some
in_statement-returns-in-Some t c =
    rw (c.in-Select.is, statement-Select, select-KSelect, c.in-Some.is, first_append, ← c.as_slice-in-Select.ensures, ← c.in_cases-best.ensures, ← c.as_slice-in-Some.ensures) c.in_statements-in-Some.ensures

pub in_statement-returns-in-Par : goal.in_statement-returns-in-Par
in_statement-returns-in-Par t c = rw (c.in-Par.is, statement-Par, ← c.as_slice-in-Par.ensures) c.in_branches.ensures

pub in_statement-returns-in-Tran : goal.in_statement-returns-in-Tran
in_statement-returns-in-Tran t c =
    rw (c.in-Tran.is, statement-Tran, ← c.as_slice-in-Tran.ensures)
    (c.in_statements-in-Tran.ensures
    ∙ sym (channel_step c.args.self.now.ports.now c.args.self.now.core c.args.best c.in-Tran.chan c.in-Tran.open_at (of_statements (plain.statements (map statement_of c.as_slice-in-Tran.result.now)))))
