use Rattle.std.proofs.Common.{◌++◌, List, map, refl, sym, ap, ◌∙◌, append-nil}
use Rattle.std.proofs.lemmas.List.{drop_all}
use Rattle.xc_tree.specs.declared.names.Mark.TheVariants.{Uses}
use Rattle.xc_tree.specs.declared.names.What.TheVariants.{Index}
use Rattle.xc_tree.specs.declared.tree.Branch.{Branch}
use Rattle.xc_tree.specs.declared.tree.Case.{Case}
use Rattle.xc_tree.specs.declared.tree.Stmt.{Stmt}
use Rattle.xc_tree.specs.Names.Marks.{declares, of_statements, of_branch, of_branches, of_cases}
use Rattle.xc_tree.specs.Depth as depths
use Rattle.xc_tree.specs.Plain as plain
use Rattle.xc_tree.specs.Trees.{statement_of, maybe_of, branch_of, case_of}
use Rattle.xc_tree.proofs.Heights.{in_right, in_last, item_within}
use Rattle.xc_tree.proofs.Forms.{statement-Stmt, branch-Branch, case-Case, action-Empty, action-Block, action-Decl, action-Assign, action-Step, action-Do, action-Output, action-Input, action-If, action-While, action-DoWhile, action-For, action-Return, action-Break, action-Continue, action-Par, action-Repl, action-Select, action-Tran}
use Rattle.xc_names.proofs.Depths.{falls, no_deeper, inside, itself, same, first, second, second_of_three, third, third_of_four, fourth}
use Rattle.xc_names.proofs.Steps.{behind_two, behind_three, behind_four, behind_scope, behind_replicated, statements_step, branches_step, cases_step}
use Rattle.xc_names.proofs.marks.+statement.Goals as goal

pub statements-loop-s-preserved : goal.statements-loop-s-preserved
statements-loop-s-preserved t c =
    c.loop-s.invariant
    ∙ rw (statements_step c.args.ss.now c.loop-s.s-index c.s-item.result c.s-item.is c.loop-s-test.true, behind_two, ← c.in_ok-statement.ensures)

pub statements-returns : goal.statements-returns
statements-returns t c =
    sym (c.loop-s.invariant
    ∙ ap (λ (ss : List Stmt). c.loop-s.out ++ of_statements (plain.statements (map statement_of ss))) (drop_all c.loop-s.s-index c.args.ss.now c.loop-s-test.false)
    ∙ append-nil c.loop-s.out)

pub branches-loop-b-preserved : goal.branches-loop-b-preserved
branches-loop-b-preserved t c =
    c.loop-b.invariant
    ∙ rw (branches_step c.args.bs.now c.loop-b.b-index c.b-item.result c.b-item.is c.loop-b-test.true, behind_two, ← c.in_ok-branch.ensures)

pub branches-returns : goal.branches-returns
branches-returns t c =
    sym (c.loop-b.invariant
    ∙ ap (λ (bs : List Branch). c.loop-b.out ++ of_branches (plain.branches (map branch_of bs))) (drop_all c.loop-b.b-index c.args.bs.now c.loop-b-test.false)
    ∙ append-nil c.loop-b.out)

pub cases-loop-c-preserved : goal.cases-loop-c-preserved
cases-loop-c-preserved t c =
    c.loop-c.invariant
    ∙ rw (cases_step c.args.cs.now c.loop-c.c-index c.c-item.result c.c-item.is c.loop-c-test.true, behind_two, ← c.in_ok-case.ensures)

pub cases-returns : goal.cases-returns
cases-returns t c =
    sym (c.loop-c.invariant
    ∙ ap (λ (cs : List Case). c.loop-c.out ++ of_cases (plain.cases (map case_of cs))) (drop_all c.loop-c.c-index c.args.cs.now c.loop-c-test.false)
    ∙ append-nil c.loop-c.out)

pub branch-returns : goal.branch-returns
branch-returns t c = rw (branch-Branch, behind_two, ← c.in_ok-place.ensures) c.statement.ensures

pub case-returns : goal.case-returns
case-returns t c =
    rw (case-Case, behind_scope, ← c.in_ok-push.ensures.ok, behind_three, ← c.in_ok-expression_if_any.ensures, ← c.in_ok-input_if_any.ensures, ← c.as_slice.ensures, ← c.in_ok-statements.ensures) c.push-2.ensures.ok

pub scope-returns : goal.scope-returns
scope-returns t c =
    rw (behind_scope, ← c.in_ok-push.ensures.ok, ← c.in_ok-statements.ensures) c.push-2.ensures.ok

pub statement_if_any-returns-in-None : goal.statement_if_any-returns-in-None
statement_if_any-returns-in-None t c = rw c.in-None.is (sym (append-nil c.args.out.now))

pub statement_if_any-returns-in-Some : goal.statement_if_any-returns-in-Some
statement_if_any-returns-in-Some t c = rw c.in-Some.is c.statement.ensures

pub statement-returns-in-Empty : goal.statement-returns-in-Empty
statement-returns-in-Empty t c = rw (statement-Stmt, ← c.deref.ensures, c.in-Empty.is, action-Empty) (sym (append-nil c.args.out.now))

pub statement-returns-in-Block : goal.statement-returns-in-Block
statement-returns-in-Block t c = rw (statement-Stmt, ← c.deref.ensures, c.in-Block.is, action-Block, ← c.as_slice.ensures) c.scope.ensures

pub statement-returns-in-Decl : goal.statement-returns-in-Decl
statement-returns-in-Decl t c = rw (statement-Stmt, ← c.deref.ensures, c.in-Decl.is, action-Decl, ← c.as_slice-in-Decl.ensures) c.declarations.ensures

pub statement-returns-in_ok-expression-in-Assign : goal.statement-returns-in_ok-expression-in-Assign
statement-returns-in_ok-expression-in-Assign t c =
    rw (statement-Stmt, ← c.deref.ensures, c.in-Assign.is, action-Assign, behind_two, ← c.in_ok-expression-in-Assign.ensures) c.right_side.ensures

pub statement-returns-in-Step : goal.statement-returns-in-Step
statement-returns-in-Step t c = rw (statement-Stmt, ← c.deref.ensures, c.in-Step.is, action-Step) c.expression-in-Step.ensures

pub statement-returns-in-Do : goal.statement-returns-in-Do
statement-returns-in-Do t c = rw (statement-Stmt, ← c.deref.ensures, c.in-Do.is, action-Do) c.right_side-in-Do.ensures

pub statement-returns-in-Output : goal.statement-returns-in-Output
statement-returns-in-Output t c = rw (statement-Stmt, ← c.deref.ensures, c.in-Output.is, action-Output) c.output.ensures

pub statement-returns-in-Input : goal.statement-returns-in-Input
statement-returns-in-Input t c = rw (statement-Stmt, ← c.deref.ensures, c.in-Input.is, action-Input) c.input.ensures

pub statement-returns-in_ok-statement-in-If : goal.statement-returns-in_ok-statement-in-If
statement-returns-in_ok-statement-in-If t c =
    rw (statement-Stmt, ← c.deref.ensures, c.in-If.is, action-If, behind_three, ← c.in_ok-expression-in-If.ensures, ← c.in_ok-statement-in-If.ensures) c.statement_if_any.ensures

pub statement-returns-in_ok-expression-in-While : goal.statement-returns-in_ok-expression-in-While
statement-returns-in_ok-expression-in-While t c =
    rw (statement-Stmt, ← c.deref.ensures, c.in-While.is, action-While, behind_two, ← c.in_ok-expression-in-While.ensures) c.statement-in-While.ensures

pub statement-returns-in_ok-statement-in-DoWhile : goal.statement-returns-in_ok-statement-in-DoWhile
statement-returns-in_ok-statement-in-DoWhile t c =
    rw (statement-Stmt, ← c.deref.ensures, c.in-DoWhile.is, action-DoWhile, behind_two, ← c.in_ok-statement-in-DoWhile.ensures) c.expression-in-DoWhile.ensures

pub statement-returns-in-Return : goal.statement-returns-in-Return
statement-returns-in-Return t c = rw (statement-Stmt, ← c.deref.ensures, c.in-Return.is, action-Return) c.right_side_if_any.ensures

pub statement-returns-in-Break : goal.statement-returns-in-Break
statement-returns-in-Break t c = rw (statement-Stmt, ← c.deref.ensures, c.in-Break.is, action-Break) (sym (append-nil c.args.out.now))

pub statement-returns-in-Continue : goal.statement-returns-in-Continue
statement-returns-in-Continue t c = rw (statement-Stmt, ← c.deref.ensures, c.in-Continue.is, action-Continue) (sym (append-nil c.args.out.now))

pub statement-returns-in-Par : goal.statement-returns-in-Par
statement-returns-in-Par t c = rw (statement-Stmt, ← c.deref.ensures, c.in-Par.is, action-Par, ← c.as_slice-in-Par.ensures) c.branches.ensures

pub statement-returns-in-Select : goal.statement-returns-in-Select
statement-returns-in-Select t c = rw (statement-Stmt, ← c.deref.ensures, c.in-Select.is, action-Select, ← c.as_slice-in-Select.ensures) c.cases.ensures

pub statement-returns-in-Tran : goal.statement-returns-in-Tran
statement-returns-in-Tran t c = rw (statement-Stmt, ← c.deref.ensures, c.in-Tran.is, action-Tran, ← c.as_slice-in-Tran.ensures) c.scope-in-Tran.ensures

pub statement-returns-in_ok-statement-in-For : goal.statement-returns-in_ok-statement-in-For
statement-returns-in_ok-statement-in-For t c =
    rw (statement-Stmt, ← c.deref.ensures, c.in-For.is, action-For, behind_scope, ← c.in_ok-push-in-For.ensures.ok, behind_four, ← c.in_ok-statement_if_any-in-For.ensures, ← c.in_ok-expression_if_any-in-For.ensures, ← c.in_ok-statement_if_any-in-For-2.ensures, ← c.in_ok-statement-in-For.ensures) c.push-in-For.ensures.ok

pub statement-returns-in_ok-branch-in-Repl : goal.statement-returns-in_ok-branch-in-Repl
statement-returns-in_ok-branch-in-Repl t c =
    let inner = of_branch (branch_of c.in-Repl.body.value) in
    rw (statement-Stmt, ← c.deref.ensures, c.in-Repl.is, action-Repl, behind_replicated c.args.out.now (declares c.in-Repl.first Index) (Uses c.in-Repl.second) (Uses c.in-Repl.third) inner, ← c.in_ok-push-in-Repl.ensures.ok, ← c.in_ok-add_declaration-in-Repl.ensures, ← c.in_ok-add_use-in-Repl.ensures, ← c.in_ok-add_use-in-Repl-2.ensures, ← c.deref-in-Repl.ensures, ← c.in_ok-branch-in-Repl.ensures) c.push-in-Repl-2.ensures.ok

pub statement-scope-requires : goal.statement-scope-requires
statement-scope-requires t c =
    let part = depths.of_statements (plain.statements (map statement_of c.as_slice.result.now)) in (
      falls (depths.of_statement (statement_of c.args.s.now)) 0 part 2 c.decreases
          (inside _ part 2 1 (rw (statement-Stmt c.args.s.now, ← c.deref.ensures, c.in-Block.is, action-Block c.in-Block.ss, ← c.as_slice.ensures)
          (same _)) refl),
      tt,
    )

pub statement-scope-requires-in-Tran : goal.statement-scope-requires-in-Tran
statement-scope-requires-in-Tran t c =
    let part = depths.of_statements (plain.statements (map statement_of c.as_slice-in-Tran.result.now)) in (
      falls (depths.of_statement (statement_of c.args.s.now)) 0 part 2 c.decreases
          (inside _ part 2 1 (rw (statement-Stmt c.args.s.now, ← c.deref.ensures, c.in-Tran.is, action-Tran c.in-Tran.field-0 c.in-Tran.ss, ← c.as_slice-in-Tran.ensures)
          (same _)) refl),
      tt,
    )

pub statement-statement-requires : goal.statement-statement-requires
statement-statement-requires t c =
    let part = depths.of_statement (statement_of c.in-If.then) in (
      falls (depths.of_statement (statement_of c.args.s.now)) 0 part 0 c.decreases
          (inside _ part 0 3 (rw (statement-Stmt c.args.s.now, ← c.deref.ensures, c.in-If.is, action-If c.in-If.test c.in-If.then c.in-If.otherwise)
          (second_of_three _ (depths.of_statement (statement_of c.in-If.then)) _)) refl),
      tt,
    )

pub statement-statement_if_any-requires : goal.statement-statement_if_any-requires
statement-statement_if_any-requires t c =
    let part = depths.of_maybe (maybe_of c.in-If.otherwise) in (
      falls (depths.of_statement (statement_of c.args.s.now)) 0 part 1 c.decreases
          (inside _ part 1 2 (rw (statement-Stmt c.args.s.now, ← c.deref.ensures, c.in-If.is, action-If c.in-If.test c.in-If.then c.in-If.otherwise)
          (third _ _ _)) refl),
      tt,
    )

pub statement-statement-requires-in-While : goal.statement-statement-requires-in-While
statement-statement-requires-in-While t c =
    let part = depths.of_statement (statement_of c.in-While.body) in (
      falls (depths.of_statement (statement_of c.args.s.now)) 0 part 0 c.decreases
          (inside _ part 0 3 (rw (statement-Stmt c.args.s.now, ← c.deref.ensures, c.in-While.is, action-While c.in-While.test c.in-While.body)
          (second _ _)) refl),
      tt,
    )

pub statement-statement-requires-in-DoWhile : goal.statement-statement-requires-in-DoWhile
statement-statement-requires-in-DoWhile t c =
    let part = depths.of_statement (statement_of c.in-DoWhile.body) in (
      falls (depths.of_statement (statement_of c.args.s.now)) 0 part 0 c.decreases
          (inside _ part 0 3 (rw (
            statement-Stmt c.args.s.now,
            ← c.deref.ensures,
            c.in-DoWhile.is,
            action-DoWhile c.in-DoWhile.body c.in-DoWhile.test,
          )
          (first _ _)) refl),
      tt,
    )

pub statement-statement_if_any-requires-in-For : goal.statement-statement_if_any-requires-in-For
statement-statement_if_any-requires-in-For t c =
    let part = depths.of_maybe (maybe_of c.in-For.first) in (
      falls (depths.of_statement (statement_of c.args.s.now)) 0 part 1 c.decreases
          (inside _ part 1 2 (rw (statement-Stmt c.args.s.now, ← c.deref.ensures, c.in-For.is, action-For c.in-For.first c.in-For.test c.in-For.step c.in-For.body)
          (first _ _)) refl),
      tt,
    )

pub statement-statement_if_any-requires-in-For-2 : goal.statement-statement_if_any-requires-in-For-2
statement-statement_if_any-requires-in-For-2 t c =
    let part = depths.of_maybe (maybe_of c.in-For.step) in (
      falls (depths.of_statement (statement_of c.args.s.now)) 0 part 1 c.decreases
          (inside _ part 1 2 (rw (statement-Stmt c.args.s.now, ← c.deref.ensures, c.in-For.is, action-For c.in-For.first c.in-For.test c.in-For.step c.in-For.body)
          (third_of_four _ _ _ _)) refl),
      tt,
    )

pub statement-statement-requires-in-For : goal.statement-statement-requires-in-For
statement-statement-requires-in-For t c =
    let part = depths.of_statement (statement_of c.in-For.body) in (
      falls (depths.of_statement (statement_of c.args.s.now)) 0 part 0 c.decreases
          (inside _ part 0 3 (rw (
            statement-Stmt c.args.s.now,
            ← c.deref.ensures,
            c.in-For.is,
            action-For c.in-For.first c.in-For.test c.in-For.step c.in-For.body,
          )
          (fourth _ _ _ _)) refl),
      tt,
    )

pub statement-branches-requires : goal.statement-branches-requires
statement-branches-requires t c =
    let part = depths.of_branches (plain.branches (map branch_of c.as_slice-in-Par.result.now)) in (
      falls (depths.of_statement (statement_of c.args.s.now)) 0 part 2 c.decreases
          (inside _ part 2 1 (rw (statement-Stmt c.args.s.now, ← c.deref.ensures, c.in-Par.is, action-Par c.in-Par.bs, ← c.as_slice-in-Par.ensures)
          (same _)) refl),
      tt,
    )

pub statement-branch-alloc-requires : goal.statement-branch-alloc-requires
statement-branch-alloc-requires t c =
    let part = depths.of_branch (branch_of c.deref-in-Repl.result.now) in (
      falls (depths.of_statement (statement_of c.args.s.now)) 0 part 1 c.decreases
          (inside _ part 1 2 (rw (
            statement-Stmt c.args.s.now,
            ← c.deref.ensures,
            c.in-Repl.is,
            action-Repl c.in-Repl.first c.in-Repl.second c.in-Repl.third c.in-Repl.from c.in-Repl.to c.in-Repl.body,
            ← c.deref-in-Repl.ensures,
          )
          (same _)) refl),
      tt,
    )

pub statement-cases-requires : goal.statement-cases-requires
statement-cases-requires t c =
    let part = depths.of_cases (plain.cases (map case_of c.as_slice-in-Select.result.now)) in (
      falls (depths.of_statement (statement_of c.args.s.now)) 0 part 3 c.decreases
          (inside _ part 3 0 (rw (statement-Stmt c.args.s.now, ← c.deref.ensures, c.in-Select.is, action-Select c.in-Select.cs, ← c.as_slice-in-Select.ensures)
          (same _)) refl),
      tt,
    )

pub scope-statements-requires : goal.scope-statements-requires
scope-statements-requires t c =
    let whole = depths.of_statements (plain.statements (map statement_of c.args.ss.now)) in
    let part = depths.of_statements (plain.statements (map statement_of c.args.ss.now)) in
    (falls whole 2 part 1 c.decreases (no_deeper _ _ 2 1 0 (itself _) refl), tt)

pub branch-statement-requires : goal.branch-statement-requires
branch-statement-requires t c =
    let whole = depths.of_branch (branch_of c.args.b.now) in
    let part = depths.of_statement (statement_of c.args.b.now.body) in
    (falls whole 1 part 0 c.decreases (no_deeper _ _ 1 0 0 (rw (branch-Branch c.args.b.now) (in_right _ _)) refl), tt)

pub case-statements-requires : goal.case-statements-requires
case-statements-requires t c =
    let whole = depths.of_case (case_of c.args.c.now) in
    let part = depths.of_statements (plain.statements (map statement_of c.as_slice.result.now)) in
    (falls whole 2 part 1 c.decreases (no_deeper _ _ 2 1 0 (rw (case-Case c.args.c.now, ← c.as_slice.ensures) (in_last _ _ _)) refl), tt)

pub statement_if_any-statement-requires : goal.statement_if_any-statement-requires
statement_if_any-statement-requires t c =
    let whole = depths.of_maybe (maybe_of c.args.s.now) in
    let part = depths.of_statement (statement_of c.in-Some.s) in
    (falls whole 1 part 0 c.decreases (no_deeper _ _ 1 0 0 (rw c.in-Some.is (itself _)) refl), tt)

pub statements-statement-requires : goal.statements-statement-requires
statements-statement-requires t c =
    let whole = depths.of_statements (plain.statements (map statement_of c.args.ss.now)) in
    let part = depths.of_statement (statement_of c.s-item.result) in (
      falls whole 1 part 0 c.decreases (no_deeper _ _ 1 0 0
          (item_within (λ x. depths.of_statement (statement_of x)) (λ xs. depths.of_statements (plain.statements (map statement_of xs)))
          (λ y ys. refl) c.args.ss.now c.loop-s.s-index c.s-item.result c.s-item.is c.loop-s-test.true) refl),
      tt,
    )

pub branches-branch-alloc-requires : goal.branches-branch-alloc-requires
branches-branch-alloc-requires t c =
    let whole = depths.of_branches (plain.branches (map branch_of c.args.bs.now)) in
    let part = depths.of_branch (branch_of c.b-item.result) in (
      falls whole 2 part 1 c.decreases (no_deeper _ _ 2 1 0
          (item_within (λ x. depths.of_branch (branch_of x)) (λ xs. depths.of_branches (plain.branches (map branch_of xs)))
          (λ y ys. refl) c.args.bs.now c.loop-b.b-index c.b-item.result c.b-item.is c.loop-b-test.true) refl),
      tt,
    )

pub cases-case-requires : goal.cases-case-requires
cases-case-requires t c =
    let whole = depths.of_cases (plain.cases (map case_of c.args.cs.now)) in
    let part = depths.of_case (case_of c.c-item.result) in (
      falls whole 3 part 2 c.decreases (no_deeper _ _ 3 2 0
          (item_within (λ x. depths.of_case (case_of x)) (λ xs. depths.of_cases (plain.cases (map case_of xs)))
          (λ y ys. refl) c.args.cs.now c.loop-c.c-index c.c-item.result c.c-item.is c.loop-c-test.true) refl),
      tt,
    )
