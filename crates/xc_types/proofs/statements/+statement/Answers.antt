use Rattle.std.proofs.Common.{ℕ, Bool, not, drop, map, max, refl, sym, ap, ◌∙◌, arith}
use Rattle.xc_tree.proofs.Forms.{statement-Stmt, branch-Branch, case-Case, action-Block, action-If, action-While, action-DoWhile, action-For, action-Par, action-Repl, action-Select, action-Tran}
use Rattle.xc_tree.specs.Plain as plain
use Rattle.xc_tree.specs.Shapes.Rules.{are_one}
use Rattle.xc_tree.specs.Trees as tree
use Rattle.xc_tree.specs.Types.Named.{named_of}
use Rattle.xc_types.specs.Enclosing.{around_of}
use Rattle.xc_types.specs.Checker.{with_broken}
use Rattle.xc_tree.specs.Heights.{height, height_of_maybe, height_of_statements, height_of_branch, height_of_branches, height_of_case, height_of_cases}
use Rattle.xc_tree.proofs.Heights.{falls, same_height, no_higher, in_left, in_right, in_middle, in_last, statement_within, branch_within, case_within}
use Rattle.xc_types.proofs.Heights.{higher}
use Rattle.xc_types.proofs.Holders.{around-Inside}
use Rattle.xc_types.proofs.Loops.{next_statement, no_statement, next_branch, no_branch, next_case, no_case}
use Rattle.xc_types.proofs.Shaping.{channels_grow, statement_steps, whole_transaction}
use Rattle.xc_types.proofs.statements.+statement.Goals as goal

pub transaction-names_one_channel-names_one-requires : goal.transaction-names_one_channel-names_one-requires
transaction-names_one_channel-names_one-requires t c =
    let long = channels_grow c.args.found.now c.breaks_where.new.self c.statements.new.found c.in_transaction.result c.args.pos _ _ c.breaks_where.ensures c.in_ok-statements.ensures in
    let begin = c.len-begin.ensures in
    omega arith

pub transaction-returns : goal.transaction-returns
transaction-returns t c =
    let ss = plain.statements (map tree.statement_of c.args.ss.now) in
    let around = around_of c.args.around.now in
    let found = c.statements.new.found in
    c.breaks_where-2.ensures
    ∙ ap (λ (b : Bool). with_broken (not b) 505 c.args.pos found) c.names_one_channel-names_one.ensures
    ∙ ap (λ (k : ℕ). with_broken (not (are_one (drop k found.channels))) 505 c.args.pos found) c.len-begin.ensures
    ∙ whole_transaction (named_of c.args.named.now) c.args.found.now around _ ss c.args.pos c.breaks_where.new.self found (around-Inside _ _)
    (c.breaks_where.ensures ∙ ap (λ (b : Bool). with_broken b 506 c.args.pos c.args.found.now) c.in_transaction.ensures)
    c.in_ok-statements.ensures

pub statement-returns-in-Empty : goal.statement-returns-in-Empty
statement-returns-in-Empty t c = grind (arith, statement_steps)

pub statement-returns-in-Block : goal.statement-returns-in-Block
statement-returns-in-Block t c = grind (arith, statement_steps)

pub statement-returns-in-Decl : goal.statement-returns-in-Decl
statement-returns-in-Decl t c = grind (arith, statement_steps)

pub statement-returns-in_ok-lval-in-Assign : goal.statement-returns-in_ok-lval-in-Assign
statement-returns-in_ok-lval-in-Assign t c = grind (arith, statement_steps)

pub statement-returns-in-Step : goal.statement-returns-in-Step
statement-returns-in-Step t c = grind (arith, statement_steps)

pub statement-returns-in-Do : goal.statement-returns-in-Do
statement-returns-in-Do t c = grind (arith, statement_steps)

pub statement-returns-in-Output : goal.statement-returns-in-Output
statement-returns-in-Output t c = grind (arith, statement_steps)

pub statement-returns-in-Input : goal.statement-returns-in-Input
statement-returns-in-Input t c = grind (arith, statement_steps)

pub statement-returns-in_ok-part-in-While : goal.statement-returns-in_ok-part-in-While
statement-returns-in_ok-part-in-While t c = grind (arith, statement_steps)

pub statement-returns-in_ok-statement-in-DoWhile : goal.statement-returns-in_ok-statement-in-DoWhile
statement-returns-in_ok-statement-in-DoWhile t c = grind (arith, statement_steps)

pub statement-returns-in-Return : goal.statement-returns-in-Return
statement-returns-in-Return t c = grind (arith, statement_steps)

pub statement-returns-in-Break : goal.statement-returns-in-Break
statement-returns-in-Break t c = grind (arith, statement_steps)

pub statement-returns-in-Continue : goal.statement-returns-in-Continue
statement-returns-in-Continue t c = grind (arith, statement_steps)

pub statement-returns-in-Par : goal.statement-returns-in-Par
statement-returns-in-Par t c = grind (arith, statement_steps)

pub statement-returns-in_ok-begin_replicated-in-Repl : goal.statement-returns-in_ok-begin_replicated-in-Repl
statement-returns-in_ok-begin_replicated-in-Repl t c = grind (arith, statement_steps)

pub statement-returns-in-Select : goal.statement-returns-in-Select
statement-returns-in-Select t c = grind (arith, statement_steps)

pub statement-returns-in-Tran : goal.statement-returns-in-Tran
statement-returns-in-Tran t c = grind (arith, statement_steps)

pub branch-returns : goal.branch-returns
branch-returns t c = grind (arith, statement_steps)

pub case-returns : goal.case-returns
case-returns t c = grind (arith, statement_steps)

pub statement_if_any-returns-in-None : goal.statement_if_any-returns-in-None
statement_if_any-returns-in-None t c = grind (arith, statement_steps)

pub statement_if_any-returns-in-Some : goal.statement_if_any-returns-in-Some
statement_if_any-returns-in-Some t c = grind (arith, statement_steps)

pub statements-loop-s-init : goal.statements-loop-s-init
statements-loop-s-init t c = refl

pub statements-loop-s-preserved : goal.statements-loop-s-preserved
statements-loop-s-preserved t c = c.loop-s.invariant ∙ next_statement (named_of c.args.named.now) (around_of c.args.around.now) c.args.ss.now c.loop-s.s-index c.loop-s.found c.s-item.result c.s-item.is c.loop-s-test.true c.statement.new.found c.in_ok-statement.ensures

pub statements-returns : goal.statements-returns
statements-returns t c = sym (c.loop-s.invariant ∙ no_statement (named_of c.args.named.now) (around_of c.args.around.now) c.args.ss.now c.loop-s.s-index c.loop-s.found c.loop-s-test.false)

pub branches-loop-b-init : goal.branches-loop-b-init
branches-loop-b-init t c = refl

pub branches-loop-b-preserved : goal.branches-loop-b-preserved
branches-loop-b-preserved t c = c.loop-b.invariant ∙ next_branch (named_of c.args.named.now) (around_of c.args.around.now) c.args.bs.now c.loop-b.b-index c.loop-b.found c.b-item.result c.b-item.is c.loop-b-test.true c.branch-found.new.found c.in_ok-branch.ensures

pub branches-returns : goal.branches-returns
branches-returns t c = sym (c.loop-b.invariant ∙ no_branch (named_of c.args.named.now) (around_of c.args.around.now) c.args.bs.now c.loop-b.b-index c.loop-b.found c.loop-b-test.false)

pub cases-loop-c-init : goal.cases-loop-c-init
cases-loop-c-init t c = refl

pub cases-loop-c-preserved : goal.cases-loop-c-preserved
cases-loop-c-preserved t c = c.loop-c.invariant ∙ next_case (named_of c.args.named.now) (around_of c.args.around.now) c.args.cs.now c.loop-c.c-index c.loop-c.found c.c-item.result c.c-item.is c.loop-c-test.true c.case.new.found c.in_ok-case.ensures

pub cases-returns : goal.cases-returns
cases-returns t c = sym (c.loop-c.invariant ∙ no_case (named_of c.args.named.now) (around_of c.args.around.now) c.args.cs.now c.loop-c.c-index c.loop-c.found c.loop-c-test.false)

pub statement-statements-requires : goal.statement-statements-requires
statement-statements-requires t c = (falls (height (tree.statement_of c.args.s.now)) 0 (height_of_statements (plain.statements (map tree.statement_of c.as_slice.result.now))) 1 c.decreases (higher _ _ 1 3 (rw (statement-Stmt c.args.s.now, ← c.deref.ensures, c.in-Block.is, action-Block c.in-Block.ss, ← c.as_slice.ensures) refl) refl), tt)

pub statement-statement-requires : goal.statement-statement-requires
statement-statement-requires t c = (falls (height (tree.statement_of c.args.s.now)) 0 (height (tree.statement_of c.in-While.body)) 0 c.decreases (higher _ _ 0 4 (rw (statement-Stmt c.args.s.now, ← c.deref.ensures, c.in-While.is, action-While c.in-While.test c.in-While.body) refl) refl), tt)

pub statement-statement-requires-in-DoWhile : goal.statement-statement-requires-in-DoWhile
statement-statement-requires-in-DoWhile t c = (falls (height (tree.statement_of c.args.s.now)) 0 (height (tree.statement_of c.in-DoWhile.body)) 0 c.decreases (higher _ _ 0 4 (rw (statement-Stmt c.args.s.now, ← c.deref.ensures, c.in-DoWhile.is, action-DoWhile c.in-DoWhile.body c.in-DoWhile.test) refl) refl), tt)

pub statement-branches-requires : goal.statement-branches-requires
statement-branches-requires t c = (falls (height (tree.statement_of c.args.s.now)) 0 (height_of_branches (plain.branches (map tree.branch_of c.as_slice-in-Par.result.now))) 2 c.decreases (higher _ _ 2 2 (rw (statement-Stmt c.args.s.now, ← c.deref.ensures, c.in-Par.is, action-Par c.in-Par.bs, ← c.as_slice-in-Par.ensures) refl) refl), tt)

pub statement-branch-found-requires : goal.statement-branch-found-requires
statement-branch-found-requires t c = (falls (height (tree.statement_of c.args.s.now)) 0 (height_of_branch (tree.branch_of c.deref-in-Repl.result.now)) 1 c.decreases (higher _ _ 1 3 (rw (statement-Stmt c.args.s.now, ← c.deref.ensures, c.in-Repl.is, action-Repl c.in-Repl.first c.in-Repl.second c.in-Repl.third c.in-Repl.from c.in-Repl.to c.in-Repl.body, ← c.deref-in-Repl.ensures) refl) refl), tt)

pub statement-cases-requires : goal.statement-cases-requires
statement-cases-requires t c = (falls (height (tree.statement_of c.args.s.now)) 0 (height_of_cases (plain.cases (map tree.case_of c.as_slice-in-Select-2.result.now))) 3 c.decreases (higher _ _ 3 1 (rw (statement-Stmt c.args.s.now, ← c.deref.ensures, c.in-Select.is, action-Select c.in-Select.cs, ← c.as_slice-in-Select-2.ensures) refl) refl), tt)

pub statement-transaction-requires : goal.statement-transaction-requires
statement-transaction-requires t c = (falls (height (tree.statement_of c.args.s.now)) 0 (height_of_statements (plain.statements (map tree.statement_of c.as_slice-in-Tran.result.now))) 2 c.decreases (higher _ _ 2 2 (rw (statement-Stmt c.args.s.now, ← c.deref.ensures, c.in-Tran.is, action-Tran c.in-Tran.field-0 c.in-Tran.ss, ← c.as_slice-in-Tran.ensures) refl) refl), tt)

pub transaction-statements-requires : goal.transaction-statements-requires
transaction-statements-requires t c = (falls (height_of_statements (plain.statements (map tree.statement_of c.args.ss.now))) 2 (height_of_statements (plain.statements (map tree.statement_of c.args.ss.now))) 1 c.decreases (same_height _ _ 2 1 0 refl refl), tt)

pub branch-statement-requires : goal.branch-statement-requires
branch-statement-requires t c = (falls (height_of_branch (tree.branch_of c.args.b.now)) 1 (height (tree.statement_of c.args.b.now.body)) 0 c.decreases (same_height _ _ 1 0 0 (rw (branch-Branch c.args.b.now) refl) refl), tt)

pub branches-branch-found-requires : goal.branches-branch-found-requires
branches-branch-found-requires t c = (falls (height_of_branches (plain.branches (map tree.branch_of c.args.bs.now))) 2 (height_of_branch (tree.branch_of c.b-item.result)) 1 c.decreases (no_higher _ _ 2 1 0 (branch_within c.args.bs.now c.loop-b.b-index c.b-item.result c.b-item.is c.loop-b-test.true) refl), tt)

pub case-statements-requires : goal.case-statements-requires
case-statements-requires t c = (falls (height_of_case (tree.case_of c.args.c.now)) 2 (height_of_statements (plain.statements (map tree.statement_of c.as_slice.result.now))) 1 c.decreases (same_height _ _ 2 1 0 (rw (case-Case c.args.c.now, ← c.as_slice.ensures) refl) refl), tt)

pub cases-case-requires : goal.cases-case-requires
cases-case-requires t c = (falls (height_of_cases (plain.cases (map tree.case_of c.args.cs.now))) 3 (height_of_case (tree.case_of c.c-item.result)) 2 c.decreases (no_higher _ _ 3 2 0 (case_within c.args.cs.now c.loop-c.c-index c.c-item.result c.c-item.is c.loop-c-test.true) refl), tt)

pub statement_if_any-statement-requires : goal.statement_if_any-statement-requires
statement_if_any-statement-requires t c = (falls (height_of_maybe (tree.maybe_of c.args.s.now)) 1 (height (tree.statement_of c.in-Some.s)) 0 c.decreases (same_height _ _ 1 0 0 (rw c.in-Some.is refl) refl), tt)

pub statements-statement-requires : goal.statements-statement-requires
statements-statement-requires t c = (falls (height_of_statements (plain.statements (map tree.statement_of c.args.ss.now))) 1 (height (tree.statement_of c.s-item.result)) 0 c.decreases (no_higher _ _ 1 0 0 (statement_within c.args.ss.now c.loop-s.s-index c.s-item.result c.s-item.is c.loop-s-test.true) refl), tt)

pub statement-returns-in-If : goal.statement-returns-in-If
statement-returns-in-If t c = rw (statement-Stmt c.args.s.now, ← c.deref.ensures, c.in-If.is, action-If c.in-If.test c.in-If.then c.in-If.otherwise) c.choice.ensures

pub statement-returns-in-For : goal.statement-returns-in-For
statement-returns-in-For t c = rw (statement-Stmt c.args.s.now, ← c.deref.ensures, c.in-For.is, action-For c.in-For.first c.in-For.test c.in-For.step c.in-For.body) c.for_loop.ensures

pub choice-returns : goal.choice-returns
choice-returns t c = grind (arith, statement_steps)

pub for_loop-returns : goal.for_loop-returns
for_loop-returns t c = grind (arith, statement_steps)

pub statement-choice-requires : goal.statement-choice-requires
statement-choice-requires t c = (falls (height (tree.statement_of c.args.s.now)) 0 (max (height (tree.statement_of c.in-If.then)) (height_of_maybe (tree.maybe_of c.in-If.otherwise))) 2 c.decreases (higher _ _ 2 2 (rw (statement-Stmt c.args.s.now, ← c.deref.ensures, c.in-If.is, action-If c.in-If.test c.in-If.then c.in-If.otherwise) refl) refl), tt)

pub statement-for_loop-requires : goal.statement-for_loop-requires
statement-for_loop-requires t c = (falls (height (tree.statement_of c.args.s.now)) 0 (max (height_of_maybe (tree.maybe_of c.in-For.first)) (max (height_of_maybe (tree.maybe_of c.in-For.step)) (height (tree.statement_of c.in-For.body)))) 2 c.decreases (higher _ _ 2 2 (rw (statement-Stmt c.args.s.now, ← c.deref.ensures, c.in-For.is, action-For c.in-For.first c.in-For.test c.in-For.step c.in-For.body) refl) refl), tt)

pub choice-statement-requires : goal.choice-statement-requires
choice-statement-requires t c = (falls (max (height (tree.statement_of c.args.then.now)) (height_of_maybe (tree.maybe_of c.args.otherwise.now))) 2 (height (tree.statement_of c.args.then.now)) 0 c.decreases (no_higher _ _ 2 0 1 (in_left _ _) refl), tt)

pub choice-statement_if_any-requires : goal.choice-statement_if_any-requires
choice-statement_if_any-requires t c = (falls (max (height (tree.statement_of c.args.then.now)) (height_of_maybe (tree.maybe_of c.args.otherwise.now))) 2 (height_of_maybe (tree.maybe_of c.args.otherwise.now)) 1 c.decreases (no_higher _ _ 2 1 0 (in_right (height (tree.statement_of c.args.then.now)) _) refl), tt)

pub for_loop-statement_if_any-requires : goal.for_loop-statement_if_any-requires
for_loop-statement_if_any-requires t c = (falls (max (height_of_maybe (tree.maybe_of c.args.first.now)) (max (height_of_maybe (tree.maybe_of c.args.step.now)) (height (tree.statement_of c.args.body.now)))) 2 (height_of_maybe (tree.maybe_of c.args.first.now)) 1 c.decreases (no_higher _ _ 2 1 0 (in_left _ _) refl), tt)

pub for_loop-statement_if_any-requires-2 : goal.for_loop-statement_if_any-requires-2
for_loop-statement_if_any-requires-2 t c = (falls (max (height_of_maybe (tree.maybe_of c.args.first.now)) (max (height_of_maybe (tree.maybe_of c.args.step.now)) (height (tree.statement_of c.args.body.now)))) 2 (height_of_maybe (tree.maybe_of c.args.step.now)) 1 c.decreases (no_higher _ _ 2 1 0 (in_middle (height_of_maybe (tree.maybe_of c.args.first.now)) _ (height (tree.statement_of c.args.body.now))) refl), tt)

pub for_loop-statement-requires : goal.for_loop-statement-requires
for_loop-statement-requires t c = (falls (max (height_of_maybe (tree.maybe_of c.args.first.now)) (max (height_of_maybe (tree.maybe_of c.args.step.now)) (height (tree.statement_of c.args.body.now)))) 2 (height (tree.statement_of c.args.body.now)) 0 c.decreases (no_higher _ _ 2 0 1 (in_last (height_of_maybe (tree.maybe_of c.args.first.now)) (height_of_maybe (tree.maybe_of c.args.step.now)) _) refl), tt)
