use Rattle.std.proofs.Common.{List, map, sym, ap, ◌∙◌}
use Rattle.xc_kernel.specs.Kernels.{branch_of, case_of, statement_of}
use Rattle.xc_kernel.specs.Plain as plain
use Rattle.xc_kernel.specs.declared.statement.Kst.{Kst}
use Rattle.xc_kernel.specs.declared.statement.KCase.{KCase}
use Rattle.xc_kernel.specs.declared.statement.KBranch.{KBranch}
use Rattle.xc_kernel.proofs.Forms.{statement-Zero, statement-Set, statement-Out, statement-In, statement-If, statement-Loop, statement-Block, statement-Exit, statement-Select, statement-Par, statement-Tran, case-KCase, select-KSelect}
use Rattle.xc_disjoint.specs.Uses.{all_after, of_cases, of_statements, with_branches}
use Rattle.xc_disjoint.specs.UseTables.{shares_in, uses_in}
use Rattle.xc_disjoint.proofs.ChannelSteps.{after_none, none_before, after_each, statements_step, cases_step, branches_step}
use Rattle.std.proofs.lemmas.List.{drop_all}
use Rattle.xc_disjoint.proofs.channel_uses.+channels.Goals as goal

pub cases-returns : goal.cases-returns
cases-returns t c =
    sym (c.loop-c.invariant
    ∙ ap (λ (cs : List KCase). all_after (uses_in c.loop-c.table) (of_cases (plain.cases (map case_of cs)))) (drop_all c.loop-c.c-index c.args.all.now c.loop-c-test.false)
    ∙ after_none (uses_in c.loop-c.table))

pub statements-returns : goal.statements-returns
statements-returns t c =
    sym (c.loop-s.invariant
    ∙ ap (λ (ss : List Kst). all_after (uses_in c.loop-s.table) (of_statements (plain.statements (map statement_of ss)))) (drop_all c.loop-s.s-index c.args.ss.now c.loop-s-test.false)
    ∙ after_none (uses_in c.loop-s.table))

pub branches-returns : goal.branches-returns
branches-returns t c =
    sym (c.loop-b.invariant
    ∙ ap (λ (bs : List KBranch). with_branches (shares_in c.loop-b.par) (plain.branches (map branch_of bs))) (drop_all c.loop-b.b-index c.args.all.now c.loop-b-test.false))

pub statements-loop-s-preserved : goal.statements-loop-s-preserved
statements-loop-s-preserved t c =
    c.loop-s.invariant
    ∙ rw (statements_step c.args.ss.now c.loop-s.s-index c.s-item.result c.s-item.is c.loop-s-test.true, ← after_each, ← c.in_ok-statement.ensures)

pub cases-loop-c-preserved : goal.cases-loop-c-preserved
cases-loop-c-preserved t c =
    c.loop-c.invariant
    ∙ rw (cases_step c.args.all.now c.loop-c.c-index c.c-item.result c.c-item.is c.loop-c-test.true, ← after_each, ← c.in_ok-case.ensures)

pub branches-loop-b-preserved : goal.branches-loop-b-preserved
branches-loop-b-preserved t c =
    c.loop-b.invariant
    ∙ rw (branches_step (shares_in c.loop-b.par) c.args.all.now c.loop-b.b-index c.b-item.result c.b-item.is c.loop-b-test.true, ← c.as_slice.ensures, ← c.in_ok-branch.ensures)

pub case-returns : goal.case-returns
case-returns t c = rw (case-KCase, ← after_each, ← c.in_ok-used.ensures, ← c.as_slice.ensures) c.statements.ensures

pub branch-returns : goal.branch-returns
branch-returns t c = rw (c.new-table.ensures, none_before) at c.in_branch-added.ensures

pub in_branch-returns : goal.in_branch-returns
in_branch-returns t c = rw (← c.in_ok-statements.ensures) c.add.ensures

pub in_par-returns : goal.in_par-returns
in_par-returns t c = rw (← c.in_ok-branches.ensures) c.follow_par.ensures

pub par-returns : goal.par-returns
par-returns t c = rw (← c.new-par.ensures) c.in_par-followed.ensures

pub statement-returns-in-Zero : goal.statement-returns-in-Zero
statement-returns-in-Zero t c = rw (c.in-Zero.is, statement-Zero) (sym (after_none (uses_in c.args.table.now)))

pub statement-returns-in-Set : goal.statement-returns-in-Set
statement-returns-in-Set t c = rw (c.in-Set.is, statement-Set) (sym (after_none (uses_in c.args.table.now)))

pub statement-returns-in-Exit : goal.statement-returns-in-Exit
statement-returns-in-Exit t c = rw (c.in-Exit.is, statement-Exit) (sym (after_none (uses_in c.args.table.now)))

pub statement-returns-in-Out : goal.statement-returns-in-Out
statement-returns-in-Out t c = rw (c.in-Out.is, statement-Out) c.used.ensures

pub statement-returns-in-In : goal.statement-returns-in-In
statement-returns-in-In t c = rw (c.in-In.is, statement-In) c.used-in-In.ensures

pub statement-returns-in_ok-statements-in-If : goal.statement-returns-in_ok-statements-in-If
statement-returns-in_ok-statements-in-If t c =
    rw (c.in-If.is, statement-If, ← after_each, ← c.as_slice.ensures, ← c.in_ok-statements-in-If.ensures, ← c.as_slice-in-If.ensures) c.statements-in-If.ensures

pub statement-returns-in_ok-statements-in-Loop : goal.statement-returns-in_ok-statements-in-Loop
statement-returns-in_ok-statements-in-Loop t c =
    rw (c.in-Loop.is, statement-Loop, ← after_each, ← c.as_slice-in-Loop.ensures, ← c.in_ok-statements-in-Loop.ensures, ← c.as_slice-in-Loop-2.ensures) c.statements-in-Loop-2.ensures

pub statement-returns-in-Block : goal.statement-returns-in-Block
statement-returns-in-Block t c = rw (c.in-Block.is, statement-Block, ← c.as_slice-in-Block.ensures) c.statements-in-Block.ensures

pub statement-returns-in-None : goal.statement-returns-in-None
statement-returns-in-None t c =
    rw (c.in-Select.is, statement-Select, select-KSelect, c.in-None.is, after_none, ← c.as_slice-in-Select.ensures) c.in_ok-cases-in-Select.ensures

pub statement-returns-in-Some : goal.statement-returns-in-Some
statement-returns-in-Some t c =
    rw (c.in-Select.is, statement-Select, select-KSelect, c.in-Some.is, ← after_each, ← c.as_slice-in-Select.ensures, ← c.in_ok-cases-in-Select.ensures, ← c.as_slice-in-Some.ensures) c.statements-in-Some.ensures

pub statement-returns-in-Par : goal.statement-returns-in-Par
statement-returns-in-Par t c = rw (c.in-Par.is, statement-Par, ← c.as_slice-in-Par.ensures) c.par.ensures

pub statement-returns-in_ok-follow-in-Tran : goal.statement-returns-in_ok-follow-in-Tran
statement-returns-in_ok-follow-in-Tran t c =
    rw (c.in-Tran.is, statement-Tran, ← after_each, ← c.in_ok-follow-in-Tran.ensures, ← c.as_slice-in-Tran.ensures) c.statements-in-Tran.ensures
