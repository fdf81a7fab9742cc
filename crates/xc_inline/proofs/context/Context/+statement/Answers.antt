use Rattle.std.proofs.Common.{◌≡◌, ℕ, ◌-◌, max, true, false, [], ◌∷◌, ◌++◌, map, nat_eq, refl, sym, ap, ◌∙◌}
use Rattle.std.proofs.lemmas.Bool.{ne_eqb}
use Rattle.std.specs.Option.{option_map}
use Rattle.xc_tree.proofs.Forms.{action-Empty, action-Assign, action-Step, action-Do, action-Output, action-Input, action-If, action-While, action-DoWhile, action-For, action-Return, action-Break, action-Continue}
use Rattle.xc_tree.specs.Plain as plain
use Rattle.xc_tree.specs.Trees as tree
use Rattle.xc_kernel.proofs.Forms.{statement-Tran}
use Rattle.xc_kernel.specs.declared.statement.Kst.{Tran}
use Rattle.xc_kernel.specs.Calls as calls_spec
use Rattle.xc_kernel.specs.Context as contexts
use Rattle.xc_kernel.specs.Copy as copies
use Rattle.xc_kernel.specs.Declarations as declarations
use Rattle.xc_kernel.specs.Flow as flow
use Rattle.xc_kernel.specs.Kernels as kernel
use Rattle.xc_kernel.specs.Parameters as parameters
use Rattle.xc_kernel.specs.Paths as paths
use Rattle.xc_kernel.specs.Paths.{path_at}
use Rattle.xc_kernel.specs.Programs as programs
use Rattle.xc_kernel.specs.Statements as spec
use Rattle.xc_inline.specs.Contexts.{context_of}
use Rattle.xc_inline.specs.Copied.{copy_of}
use Rattle.xc_inline.specs.Functions.{function_of, deepest}
use Rattle.xc_tree.specs.Heights as heights
use Rattle.xc_inline.specs.Scopes.{scope_of}
use Rattle.xc_inline.proofs.Laws.Actions.{copied_as, copied_in, height_by_action, by_action, call_by_action, action_block, action_declare, action_par, action_replicated, action_select, action_transaction, begins_at, in_branch_of}
use Rattle.xc_inline.proofs.Laws.Growth.{calls_keep, further, grown_by, grown_fits, left_as, maybe_grows, statements_grow}
use Rattle.xc_inline.proofs.Laws.Pieces.{if_done, while_done, do_done, set_done, return_done, function_done, transaction_done, followed_done}
use Rattle.xc_inline.proofs.Laws.Depths.{held, level, lower, in_first, in_second, enters_first, of_one_call, no_less, one_above}
use Rattle.xc_kernel.specs.Scopes as scopes
use Rattle.xc_inline.specs.Parts.{branched_before, cased_before}
use Rattle.xc_inline.proofs.Laws.Loops.{statement_below, branch_below, branches_below, case_below, body_below, for_grows, grown_from, grown_where, numbered_grows, case_done}
use Rattle.xc_inline.proofs.Laws.Walks.{statements_more, statements_all, declarations_more, declarations_all, branches_more, branches_all, and_made, cases_more, cases_all, numbered_begun, numbered_more, numbered_all}
use Rattle.xc_inline.proofs.Laws.Results.{given_on, given_on_ok}
use Rattle.xc_inline.proofs.context.Context.+statement.Goals as goal

pub statement-returns-in-Empty : goal.statement-returns-in-Empty
statement-returns-in-Empty t c =
    by_action (spec.calls_copy c.args.calls) c.args.s.now (context_of c.args.self.now) (scope_of c.args.scope.now) c.deref.ensures c.in-Empty.is action-Empty (c.nothing.ensures (scope_of c.args.scope.now))

pub statement-returns-in-Block : goal.statement-returns-in-Block
statement-returns-in-Block t c =
    call_by_action (spec.calls_copy c.args.calls) c.args.s.now (context_of c.args.self.now) (scope_of c.args.scope.now) c.deref.ensures c.in-Block.is (action_block c.in-Block.ss c.as_slice.ensures) (scope_of c.block.new.scope) c.block.result c.block.ensures

pub statement-returns-in-Decl : goal.statement-returns-in-Decl
statement-returns-in-Decl t c =
    call_by_action (spec.calls_copy c.args.calls) c.args.s.now (context_of c.args.self.now) (scope_of c.args.scope.now) c.deref.ensures c.in-Decl.is (action_declare c.in-Decl.ds c.as_slice-in-Decl.ensures) (scope_of c.declarations.new.scope) c.declarations.result c.declarations.ensures

pub statement-returns-in-Assign : goal.statement-returns-in-Assign
statement-returns-in-Assign t c =
    call_by_action (spec.calls_copy c.args.calls) c.args.s.now (context_of c.args.self.now) (scope_of c.args.scope.now) c.deref.ensures c.in-Assign.is (action-Assign c.in-Assign.to c.in-Assign.symbol c.in-Assign.pos c.in-Assign.right) (scope_of c.args.scope.now) c.assign.result c.assign.ensures

pub statement-returns-in-Step : goal.statement-returns-in-Step
statement-returns-in-Step t c =
    call_by_action (spec.calls_copy c.args.calls) c.args.s.now (context_of c.args.self.now) (scope_of c.args.scope.now) c.deref.ensures c.in-Step.is (action-Step c.in-Step.to c.in-Step.symbol) (scope_of c.args.scope.now) c.step.result c.step.ensures

pub statement-returns-in-Do : goal.statement-returns-in-Do
statement-returns-in-Do t c =
    call_by_action (spec.calls_copy c.args.calls) c.args.s.now (context_of c.args.self.now) (scope_of c.args.scope.now) c.deref.ensures c.in-Do.is (action-Do c.in-Do.right) (scope_of c.args.scope.now) c.right.result c.right.ensures

pub statement-returns-in-Output : goal.statement-returns-in-Output
statement-returns-in-Output t c =
    call_by_action (spec.calls_copy c.args.calls) c.args.s.now (context_of c.args.self.now) (scope_of c.args.scope.now) c.deref.ensures c.in-Output.is (action-Output c.in-Output.o) (scope_of c.args.scope.now) c.output.result c.output.ensures

pub statement-returns-in-Input : goal.statement-returns-in-Input
statement-returns-in-Input t c =
    call_by_action (spec.calls_copy c.args.calls) c.args.s.now (context_of c.args.self.now) (scope_of c.args.scope.now) c.deref.ensures c.in-Input.is (action-Input c.in-Input.i) (scope_of c.input.new.scope) c.input.result c.input.ensures

pub statement-returns-in-If : goal.statement-returns-in-If
statement-returns-in-If t c =
    call_by_action (spec.calls_copy c.args.calls) c.args.s.now (context_of c.args.self.now) (scope_of c.args.scope.now) c.deref.ensures c.in-If.is (action-If c.in-If.test c.in-If.first c.in-If.second) (scope_of c.choice.new.scope) c.choice.result c.choice.ensures

pub statement-returns-in-While : goal.statement-returns-in-While
statement-returns-in-While t c =
    call_by_action (spec.calls_copy c.args.calls) c.args.s.now (context_of c.args.self.now) (scope_of c.args.scope.now) c.deref.ensures c.in-While.is (action-While c.in-While.test c.in-While.body) (scope_of c.while_loop.new.scope) c.while_loop.result c.while_loop.ensures

pub statement-returns-in-DoWhile : goal.statement-returns-in-DoWhile
statement-returns-in-DoWhile t c =
    call_by_action (spec.calls_copy c.args.calls) c.args.s.now (context_of c.args.self.now) (scope_of c.args.scope.now) c.deref.ensures c.in-DoWhile.is (action-DoWhile c.in-DoWhile.body c.in-DoWhile.test) (scope_of c.do_while.new.scope) c.do_while.result c.do_while.ensures

pub statement-returns-in-For : goal.statement-returns-in-For
statement-returns-in-For t c =
    call_by_action (spec.calls_copy c.args.calls) c.args.s.now (context_of c.args.self.now) (scope_of c.args.scope.now) c.deref.ensures c.in-For.is (action-For c.in-For.first c.in-For.test c.in-For.next c.in-For.body) (scope_of c.for_loop.new.scope) c.for_loop.result c.for_loop.ensures

pub statement-returns-in-Return : goal.statement-returns-in-Return
statement-returns-in-Return t c =
    call_by_action (spec.calls_copy c.args.calls) c.args.s.now (context_of c.args.self.now) (scope_of c.args.scope.now) c.deref.ensures c.in-Return.is (action-Return c.in-Return.right) (scope_of c.args.scope.now) c.return_with.result c.return_with.ensures

pub statement-returns-in-Break : goal.statement-returns-in-Break
statement-returns-in-Break t c =
    call_by_action (spec.calls_copy c.args.calls) c.args.s.now (context_of c.args.self.now) (scope_of c.args.scope.now) c.deref.ensures c.in-Break.is action-Break (scope_of c.args.scope.now) c.leaves.result c.leaves.ensures

pub statement-returns-in-Continue : goal.statement-returns-in-Continue
statement-returns-in-Continue t c =
    call_by_action (spec.calls_copy c.args.calls) c.args.s.now (context_of c.args.self.now) (scope_of c.args.scope.now) c.deref.ensures c.in-Continue.is action-Continue (scope_of c.args.scope.now) c.leaves-in-Continue.result c.leaves-in-Continue.ensures

pub statement-returns-in-Par : goal.statement-returns-in-Par
statement-returns-in-Par t c =
    call_by_action (spec.calls_copy c.args.calls) c.args.s.now (context_of c.args.self.now) (scope_of c.args.scope.now) c.deref.ensures c.in-Par.is (action_par c.in-Par.bs c.as_slice-in-Par.ensures) (scope_of c.par.new.scope) c.par.result c.par.ensures

pub statement-returns-in-Repl : goal.statement-returns-in-Repl
statement-returns-in-Repl t c =
    call_by_action (spec.calls_copy c.args.calls) c.args.s.now (context_of c.args.self.now) (scope_of c.args.scope.now) c.deref.ensures c.in-Repl.is (action_replicated c.in-Repl.first c.in-Repl.second c.in-Repl.third c.in-Repl.from c.in-Repl.to c.in-Repl.body c.deref-in-Repl.ensures) (scope_of c.replicated.new.scope) c.replicated.result c.replicated.ensures

pub statement-returns-in-Select : goal.statement-returns-in-Select
statement-returns-in-Select t c =
    call_by_action (spec.calls_copy c.args.calls) c.args.s.now (context_of c.args.self.now) (scope_of c.args.scope.now) c.deref.ensures c.in-Select.is (action_select c.in-Select.cs c.as_slice-in-Select.ensures) (scope_of c.select.new.scope) c.select.result c.select.ensures

pub statement-returns-in-Tran : goal.statement-returns-in-Tran
statement-returns-in-Tran t c =
    call_by_action (spec.calls_copy c.args.calls) c.args.s.now (context_of c.args.self.now) (scope_of c.args.scope.now) c.deref.ensures c.in-Tran.is (action_transaction c.in-Tran.master c.in-Tran.ss c.as_slice-in-Tran.ensures) (scope_of c.transaction.new.scope) c.transaction.result c.transaction.ensures

pub statement-block-requires : goal.statement-block-requires
statement-block-requires t c =
    (held c.args.calls (deepest c.args.self.now.functions.now.all.items) (heights.height_of_statements (plain.statements (map tree.statement_of c.as_slice.result.now))) 2 13 c.decreases (height_by_action c.args.s.now c.deref.ensures c.in-Block.is (action_block c.in-Block.ss c.as_slice.ensures)) refl, tt)

pub statement-declarations-requires : goal.statement-declarations-requires
statement-declarations-requires t c =
    (held c.args.calls (deepest c.args.self.now.functions.now.all.items) 0 6 9 c.decreases (height_by_action c.args.s.now c.deref.ensures c.in-Decl.is (action_declare c.in-Decl.ds c.as_slice-in-Decl.ensures)) refl, tt)

pub statement-assign-requires : goal.statement-assign-requires
statement-assign-requires t c =
    (held c.args.calls (deepest c.args.self.now.functions.now.all.items) 0 4 11 c.decreases (height_by_action c.args.s.now c.deref.ensures c.in-Assign.is (action-Assign c.in-Assign.to c.in-Assign.symbol c.in-Assign.pos c.in-Assign.right)) refl, tt)

pub statement-right-requires : goal.statement-right-requires
statement-right-requires t c =
    (held c.args.calls (deepest c.args.self.now.functions.now.all.items) 0 3 12 c.decreases (height_by_action c.args.s.now c.deref.ensures c.in-Do.is (action-Do c.in-Do.right)) refl, tt)

pub statement-choice-requires : goal.statement-choice-requires
statement-choice-requires t c =
    (held c.args.calls (deepest c.args.self.now.functions.now.all.items) (max (heights.height (tree.statement_of c.in-If.first)) (heights.height_of_maybe (tree.maybe_of c.in-If.second))) 2 13 c.decreases (height_by_action c.args.s.now c.deref.ensures c.in-If.is (action-If c.in-If.test c.in-If.first c.in-If.second)) refl, tt)

pub statement-while_loop-requires : goal.statement-while_loop-requires
statement-while_loop-requires t c =
    (held c.args.calls (deepest c.args.self.now.functions.now.all.items) (heights.height (tree.statement_of c.in-While.body)) 1 14 c.decreases (height_by_action c.args.s.now c.deref.ensures c.in-While.is (action-While c.in-While.test c.in-While.body)) refl, tt)

pub statement-do_while-requires : goal.statement-do_while-requires
statement-do_while-requires t c =
    (held c.args.calls (deepest c.args.self.now.functions.now.all.items) (heights.height (tree.statement_of c.in-DoWhile.body)) 1 14 c.decreases (height_by_action c.args.s.now c.deref.ensures c.in-DoWhile.is (action-DoWhile c.in-DoWhile.body c.in-DoWhile.test)) refl, tt)

pub statement-for_loop-requires : goal.statement-for_loop-requires
statement-for_loop-requires t c =
    (held c.args.calls (deepest c.args.self.now.functions.now.all.items) (max (heights.height_of_maybe (tree.maybe_of c.in-For.first)) (max (heights.height_of_maybe (tree.maybe_of c.in-For.next)) (heights.height (tree.statement_of c.in-For.body)))) 3 12 c.decreases (height_by_action c.args.s.now c.deref.ensures c.in-For.is (action-For c.in-For.first c.in-For.test c.in-For.next c.in-For.body)) refl, tt)

pub statement-return_with-requires : goal.statement-return_with-requires
statement-return_with-requires t c =
    (held c.args.calls (deepest c.args.self.now.functions.now.all.items) 0 4 11 c.decreases (height_by_action c.args.s.now c.deref.ensures c.in-Return.is (action-Return c.in-Return.right)) refl, tt)

pub statement-par-requires : goal.statement-par-requires
statement-par-requires t c =
    (held c.args.calls (deepest c.args.self.now.functions.now.all.items) (heights.height_of_branches (plain.branches (map tree.branch_of c.as_slice-in-Par.result.now))) 2 13 c.decreases (height_by_action c.args.s.now c.deref.ensures c.in-Par.is (action_par c.in-Par.bs c.as_slice-in-Par.ensures)) refl, tt)

pub statement-replicated-requires : goal.statement-replicated-requires
statement-replicated-requires t c =
    (held c.args.calls (deepest c.args.self.now.functions.now.all.items) (heights.height_of_branch (tree.branch_of c.deref-in-Repl.result.now)) 3 12 c.decreases (height_by_action c.args.s.now c.deref.ensures c.in-Repl.is (action_replicated c.in-Repl.first c.in-Repl.second c.in-Repl.third c.in-Repl.from c.in-Repl.to c.in-Repl.body c.deref-in-Repl.ensures)) refl, tt)

pub statement-select-requires : goal.statement-select-requires
statement-select-requires t c =
    (held c.args.calls (deepest c.args.self.now.functions.now.all.items) (heights.height_of_cases (plain.cases (map tree.case_of c.as_slice-in-Select.result.now))) 3 12 c.decreases (height_by_action c.args.s.now c.deref.ensures c.in-Select.is (action_select c.in-Select.cs c.as_slice-in-Select.ensures)) refl, tt)

pub statement-transaction-requires : goal.statement-transaction-requires
statement-transaction-requires t c =
    (held c.args.calls (deepest c.args.self.now.functions.now.all.items) (heights.height_of_statements (plain.statements (map tree.statement_of c.as_slice-in-Tran.result.now))) 2 13 c.decreases (height_by_action c.args.s.now c.deref.ensures c.in-Tran.is (action_transaction c.in-Tran.master c.in-Tran.ss c.as_slice-in-Tran.ensures)) refl, tt)

pub maybe-returns-in-None : goal.maybe-returns-in-None
maybe-returns-in-None t c =
    c.nothing.ensures (scope_of c.args.scope.now)
    ∙ ap (λ m. spec.maybe_copy (spec.calls_copy c.args.calls) (tree.maybe_of m) (context_of c.args.self.now) (scope_of c.args.scope.now)) (sym c.in-None.is)

pub maybe-returns-in-Some : goal.maybe-returns-in-Some
maybe-returns-in-Some t c =
    let here = context_of c.args.self.now in
    let before = scope_of c.args.scope.now in
    let copies' = spec.calls_copy c.args.calls in
    copied_as (scope_of c.statement.new.scope) c.statement.result
    (ap (λ m. spec.maybe_copy copies' (tree.maybe_of m) here before) (sym c.in-Some.is))
    c.statement.ensures

pub maybe-statement-requires : goal.maybe-statement-requires
maybe-statement-requires t c =
    let same : ◌≡◌ {A = ℕ} (heights.height (tree.statement_of c.in-Some.s)) (heights.height_of_maybe (tree.maybe_of c.args.s.now)) = ap (λ m. heights.height_of_maybe (tree.maybe_of m)) (sym c.in-Some.is) in
    (level c.args.calls (deepest c.args.self.now.functions.now.all.items) (deepest c.args.self.now.functions.now.all.items) (heights.height_of_maybe (tree.maybe_of c.args.s.now)) 1 (heights.height (tree.statement_of c.in-Some.s)) 0 0 c.decreases refl same refl, tt)

pub block-leave-requires : goal.block-leave-requires
block-leave-requires t c =
    let scope = scope_of c.args.scope.now in
    let ss = plain.statements (map tree.statement_of c.args.ss.now) in
    grown_fits (grown_by scope c.in_ok-copied.ensures (statements_grow (spec.calls_copy c.args.calls) (calls_keep c.args.calls) ss (context_of c.args.self.now) scope)) c.len-known.ensures

pub block-returns : goal.block-returns
block-returns t c =
    let scope = scope_of c.args.scope.now in
    let ss = plain.statements (map tree.statement_of c.args.ss.now) in
    let grows = grown_by scope c.in_ok-copied.ensures (statements_grow (spec.calls_copy c.args.calls) (calls_keep c.args.calls) ss (context_of c.args.self.now) scope) in
    let left = left_as grows c.len-known.ensures c.leave.ensures in
    λ i. copies.in_scope_of (left i) (c.in_ok-copied.ensures i)

pub block-statements-requires : goal.block-statements-requires
block-statements-requires t c =
    (level c.args.calls (deepest c.args.self.now.functions.now.all.items) (deepest c.args.self.now.functions.now.all.items) (heights.height_of_statements (plain.statements (map tree.statement_of c.args.ss.now))) 2 (heights.height_of_statements (plain.statements (map tree.statement_of c.args.ss.now))) 1 0 c.decreases refl refl refl, tt)

pub declaration-returns-in_ok-declared-in-Word : goal.declaration-returns-in_ok-declared-in-Word
declaration-returns-in_ok-declared-in-Word t c = given_on c.with_next.result c.with_next.ensures (λ _ h.
    let here = context_of c.args.self.now in
    let copies' = spec.calls_copy c.args.calls in
    let before = scope_of c.args.scope.now in
    let inner = scope_of c.declares_word.new.scope in
    let d = c.args.d.now in
    followed_done (declarations.initial_copy copies' here (path_at here.path d.name.pos) (option_map tree.right_of c.in-Word.right))
    (c.in_ok-declared-in-Word.ensures ∙ ap (λ name. contexts.declares_word here name d.name.pos c.in-Word.unsigned before) c.as_slice-name.ensures)
    refl (h inner inner _ c.initial-initial.ensures)
    ∙ ap (λ k. declarations.kind_copy copies' here before d.name.text d.name.pos (tree.kind_of k)) (sym c.in-Word.is))

pub declaration-returns-in-Array : goal.declaration-returns-in-Array
declaration-returns-in-Array t c =
    let here = context_of c.args.self.now in
    let copies' = spec.calls_copy c.args.calls in
    let before = scope_of c.args.scope.now in
    let d = c.args.d.now in
    copied_as (scope_of c.array.new.scope) c.array.result
    (ap (λ name. declarations.array_copy here before name d.name.pos (path_at here.path d.name.pos) c.in-Array.unsigned c.in-Array.words) c.as_slice-name.ensures
    ∙ ap (λ k. declarations.kind_copy copies' here before d.name.text d.name.pos (tree.kind_of k)) (sym c.in-Array.is))
    c.array.ensures

pub declaration-returns-in-Chan : goal.declaration-returns-in-Chan
declaration-returns-in-Chan t c =
    let here = context_of c.args.self.now in
    let copies' = spec.calls_copy c.args.calls in
    let before = scope_of c.args.scope.now in
    let d = c.args.d.now in
    copied_as (scope_of c.channel.new.scope) c.channel.result
    (ap (λ name. declarations.channel_copy before name d.name.pos (path_at here.path d.name.pos) c.in-Chan.streaming) c.as_slice-name.ensures
    ∙ ap (λ k. declarations.kind_copy copies' here before d.name.text d.name.pos (tree.kind_of k)) (sym c.in-Chan.is))
    c.channel.ensures

pub declaration-returns-in-Timer : goal.declaration-returns-in-Timer
declaration-returns-in-Timer t c =
    let here = context_of c.args.self.now in
    let copies' = spec.calls_copy c.args.calls in
    let before = scope_of c.args.scope.now in
    let d = c.args.d.now in
    copied_as (scope_of c.timer.new.scope) c.timer.result
    (ap (λ name. declarations.timer_copy here before name d.name.pos (path_at here.path d.name.pos)) c.as_slice-name.ensures
    ∙ ap (λ k. declarations.kind_copy copies' here before d.name.text d.name.pos (tree.kind_of k)) (sym c.in-Timer.is))
    c.timer.ensures

pub declaration-initial-initial-requires : goal.declaration-initial-initial-requires
declaration-initial-initial-requires t c =
    (level c.args.calls (deepest c.args.self.now.functions.now.all.items) (deepest c.args.self.now.functions.now.all.items) 0 5 0 4 0 c.decreases refl refl refl, tt)

pub initial-returns-in-None : goal.initial-returns-in-None
initial-returns-in-None t c = given_on c.one_statement.result c.one_statement.ensures (λ _ h.
    let here = context_of c.args.self.now in
    let scope = scope_of c.args.scope.now in
    let path = path_at here.path c.args.pos in
    h scope
    ∙ ap (copies.one_statement scope) (c.set_zero.ensures ∙ ap (contexts.set_zero here) (c.as_slice.ensures ∙ c.in_ok-path.ensures))
    ∙ ap (λ r. declarations.initial_copy (spec.calls_copy c.args.calls) here path (option_map tree.right_of r) scope) (sym c.in-None.is))

pub initial-returns : goal.initial-returns
initial-returns t c = given_on c.stored_behind.result c.stored_behind.ensures (λ _ h.
    let here = context_of c.args.self.now in
    let scope = scope_of c.args.scope.now in
    let path = path_at here.path c.args.pos in
    let copies' = spec.calls_copy c.args.calls in
    let value = calls_spec.value_of here scope (tree.right_of c.in-Some.right) in
    h scope _ c.right-called.ensures
    ∙ (λ i. copies.joined (calls_spec.right_copy copies' here scope (tree.right_of c.in-Some.right)) (copies.one_statement scope (contexts.set_word here ((c.as_slice-in-Some.ensures ∙ c.in_ok-path.ensures) i) value)))
    ∙ ap (λ r. declarations.initial_copy copies' here path (option_map tree.right_of r) scope) (sym c.in-Some.is))

pub initial-right-called-requires : goal.initial-right-called-requires
initial-right-called-requires t c =
    (level c.args.calls (deepest c.args.self.now.functions.now.all.items) (deepest c.args.self.now.functions.now.all.items) 0 4 0 3 0 c.decreases refl refl refl, tt)

pub assign-returns-then-symbol-ne-EQUALS : goal.assign-returns-then-symbol-ne-EQUALS
assign-returns-then-symbol-ne-EQUALS t c =
    let here = context_of c.args.self.now in
    let scope = scope_of c.args.scope.now in
    let to = tree.expression_of c.args.to.now in
    let right = tree.right_of c.args.right.now in
    let other : nat_eq c.args.symbol 22 ≡ false = ne_eqb c.args.symbol 22 c.if-symbol-ne-EQUALS.true in
    copied_as scope c.update.result
    ((λ i. spec.update_copy here scope to c.args.symbol c.args.pos (c.in_ok-value.ensures.unsigned i) (c.in_ok-value.ensures.value i))
    ∙ ap (spec.assign_by (spec.calls_copy c.args.calls) here scope to c.args.symbol c.args.pos right) (sym other))
    c.update.ensures

pub assign-returns : goal.assign-returns
assign-returns t c = given_on c.assigned_behind.result c.assigned_behind.ensures (λ _ h.
    let here = context_of c.args.self.now in
    let scope = scope_of c.args.scope.now in
    let to = tree.expression_of c.args.to.now in
    let right = tree.right_of c.args.right.now in
    let copies' = spec.calls_copy c.args.calls in
    let same : nat_eq c.args.symbol 22 ≡ true = ap (λ s. nat_eq s 22) c.if-symbol-ne-EQUALS.false in
    set_done copies' here scope to right refl refl refl (h scope _ c.right-called.ensures)
    ∙ ap (spec.assign_by copies' here scope to c.args.symbol c.args.pos right) (sym same))

pub assign-right-called-requires : goal.assign-right-called-requires
assign-right-called-requires t c =
    (level c.args.calls (deepest c.args.self.now.functions.now.all.items) (deepest c.args.self.now.functions.now.all.items) 0 4 0 3 0 c.decreases refl refl refl, tt)

pub return_with-returns-in-None : goal.return_with-returns-in-None
return_with-returns-in-None t c = given_on c.leaves.result c.leaves.ensures (λ _ h.
    let here = context_of c.args.self.now in
    let scope = scope_of c.args.scope.now in
    h ∙ ap (λ r. spec.return_copy (spec.calls_copy c.args.calls) here scope (option_map tree.right_of r)) (sym c.in-None.is))

pub return_with-returns-in-Some : goal.return_with-returns-in-Some
return_with-returns-in-Some t c = given_on c.returned_behind.result c.returned_behind.ensures (λ _ h.
    let here = context_of c.args.self.now in
    let scope = scope_of c.args.scope.now in
    let copies' = spec.calls_copy c.args.calls in
    return_done copies' here scope (tree.right_of c.in-Some.right) refl refl refl refl refl refl (h scope _ c.right-called.ensures)
    ∙ ap (λ r. spec.return_copy copies' here scope (option_map tree.right_of r)) (sym c.in-Some.is))

pub return_with-right-called-requires : goal.return_with-right-called-requires
return_with-right-called-requires t c =
    (level c.args.calls (deepest c.args.self.now.functions.now.all.items) (deepest c.args.self.now.functions.now.all.items) 0 4 0 3 0 c.decreases refl refl refl, tt)

pub right-returns-in-Value : goal.right-returns-in-Value
right-returns-in-Value t c =
    let scope = scope_of c.args.scope.now in
    c.nothing.ensures scope
    ∙ ap (λ r. calls_spec.right_copy (spec.calls_copy c.args.calls) (context_of c.args.self.now) scope (tree.right_of r)) (sym c.in-Value.is)

pub right-returns-in-None : goal.right-returns-in-None
right-returns-in-None t c =
    let here = context_of c.args.self.now in
    let scope = scope_of c.args.scope.now in
    let copies' = spec.calls_copy c.args.calls in
    let args = map tree.argument_of c.in-Call.args in
    let found = c.in-None.ensures.function ∙ ap (programs.function_named here.functions) c.as_slice.ensures in
    c.nothing-in-None.ensures scope
    ∙ ap (calls_spec.call_by copies' here scope c.in-Call.pos args) found
    ∙ ap (λ r. calls_spec.right_copy copies' here scope (tree.right_of r)) (sym c.in-Call.is)

pub right-returns-in-Some : goal.right-returns-in-Some
right-returns-in-Some t c =
    let here = context_of c.args.self.now in
    let scope = scope_of c.args.scope.now in
    let copies' = spec.calls_copy c.args.calls in
    let args = map tree.argument_of c.in-Call.args in
    let found = c.in-Some.ensures.function ∙ ap (programs.function_named here.functions) c.as_slice.ensures in
    copied_as scope c.call.result
    (ap (λ xs. copies' here scope (function_of c.in-Some.function.now) c.in-Call.pos (map tree.argument_of xs)) c.as_slice-in-Some.ensures
    ∙ ap (calls_spec.call_by copies' here scope c.in-Call.pos args) found
    ∙ ap (λ r. calls_spec.right_copy copies' here scope (tree.right_of r)) (sym c.in-Call.is))
    c.call.ensures

pub right-call-requires : goal.right-call-requires
right-call-requires t c =
    (level c.args.calls (deepest c.args.self.now.functions.now.all.items) (deepest c.args.self.now.functions.now.all.items) 0 3 0 2 0 c.decreases refl refl refl, (c.in-Some.ensures.depth, c.in-Some.ensures.parameters))

pub call-returns-then-calls-eq0 : goal.call-returns-then-calls-eq0
call-returns-then-calls-eq0 t c =
    let here = context_of c.args.self.now in
    let scope = scope_of c.args.scope.now in
    let args = map tree.argument_of c.args.args.now in
    c.nothing.ensures scope
    ∙ ap (λ n. spec.calls_copy n here scope (function_of c.args.function.now) c.args.pos args) (sym c.if-calls-eq0.true)

pub call-returns : goal.call-returns
call-returns t c =
    let here = context_of c.args.self.now in
    let scope = scope_of c.args.scope.now in
    let f = function_of c.args.function.now in
    let args = map tree.argument_of c.args.args.now in
    let n = of_one_call c.args.calls c.if-calls-eq0.false in
    copied_as scope c.function.result
    (ap (λ own. calls_spec.function_copy (spec.statement_copy (spec.calls_copy (c.args.calls - 1))) here scope own f args) (c.as_slice.ensures ∙ c.in_ok-own.ensures)
    ∙ ap (λ n. spec.calls_copy n here scope f c.args.pos args) n)
    c.function.ensures

pub call-function-requires : goal.call-function-requires
call-function-requires t c =
    let d = deepest c.args.self.now.functions.now.all.items in
    (enters_first c.args.calls d c.decreases c.if-calls-eq0.false, (c.requires.height, c.requires.parameters))

pub function-returns : goal.function-returns
function-returns t c = given_on c.around_body.result c.around_body.ensures (λ _ h.
    let here = context_of c.args.self.now in
    let scope = scope_of c.args.scope.now in
    let own = c.args.own.now in
    let f = function_of c.args.function.now in
    let args = map tree.argument_of c.args.args.now in
    let copies' = spec.statement_copy (spec.calls_copy c.args.calls) in
    let inner = scope_of c.statement-body.new.scope in
    let result = rw c.in_ok-result.ensures.first at c.path_at-result.ensures in
    let passed = rw c.in_ok-result.ensures.second at c.all_passed-entered.ensures in
    let around = c.in_function.ensures.context ∙ λ i. record here { path = own; result = (c.as_slice-2.ensures ∙ result) i; returns = own } in
    function_done copies' here scope own f args
    refl
    (ap (λ p. calls_spec.result_copy here p f.head.name.pos scope f.head.result) (c.as_slice-3.ensures ∙ result))
    (passed ∙ ap (λ ps. parameters.all_passed here scope own ps args) c.as_slice.ensures)
    refl
    refl refl refl refl (h (scope_of c.in_ok-result.entered.scope) inner scope _ (copied_in (scope_of c.in_ok-result.entered.scope) (copies' f.body) inner c.statement-body.result around c.statement-body.ensures)))

pub function-statement-body-requires : goal.function-statement-body-requires
function-statement-body-requires t c =
    (lower c.args.calls (deepest c.args.self.now.functions.now.all.items) (deepest c.in_function.result.functions.now.all.items) (deepest c.args.self.now.functions.now.all.items) 1 (heights.height (tree.statement_of c.args.function.now.body)) 0 0 c.decreases (ap (λ f. deepest f.now.all.items) c.in_function.ensures.functions) c.requires.height refl, tt)

pub choice-returns : goal.choice-returns
choice-returns t c = given_on c.if_copy.result c.if_copy.ensures (λ _ h.
    let here = context_of c.args.self.now in
    let test = ap (λ w. kernel.expression_of w.value) c.in_ok-test-2.ensures.value ∙ c.in_ok-test.ensures.value in
    let first = rw c.in_ok-test-2.ensures.made at c.statement-first.ensures in
    if_done (spec.maybe_copy (spec.calls_copy c.args.calls) (tree.maybe_of c.args.second.now) here) test first refl
    (h (scope_of c.statement-first.new.scope) (scope_of c.maybe-second.new.scope) _ c.maybe-second.ensures))

pub choice-statement-first-requires : goal.choice-statement-first-requires
choice-statement-first-requires t c =
    (in_first c.args.calls (deepest c.args.self.now.functions.now.all.items) (deepest c.args.self.now.functions.now.all.items) (heights.height (tree.statement_of c.args.first.now)) (heights.height_of_maybe (tree.maybe_of c.args.second.now)) 2 0 1 c.decreases refl refl, tt)

pub choice-maybe-second-requires : goal.choice-maybe-second-requires
choice-maybe-second-requires t c =
    (in_second c.args.calls (deepest c.args.self.now.functions.now.all.items) (deepest c.args.self.now.functions.now.all.items) (heights.height (tree.statement_of c.args.first.now)) (heights.height_of_maybe (tree.maybe_of c.args.second.now)) 2 1 0 c.decreases refl refl, tt)

pub while_loop-looped-requires : goal.while_loop-looped-requires
while_loop-looped-requires t c =
    let whole = rw c.in_ok-paths.ensures.first at c.loop_paths-paths.ensures.whole in
    (rw c.in_ok-paths.ensures.first at c.loop_paths-paths.ensures.turn) ∙ ap paths.path_of_turn (sym whole)

pub while_loop-returns : goal.while_loop-returns
while_loop-returns t c = given_on c.looped.result c.looped.ensures (λ _ h.
    let here = context_of c.args.self.now in
    let scope = scope_of c.args.scope.now in
    let inner = scope_of c.statement-body.new.scope in
    let whole = rw c.in_ok-paths.ensures.first at c.loop_paths-paths.ensures.whole in
    let turn = rw c.in_ok-paths.ensures.first at c.loop_paths-paths.ensures.turn in
    let test = rw c.in_ok-paths.ensures.second at c.word-test.ensures.value in
    let copy = spec.statement_copy (spec.calls_copy c.args.calls) (tree.statement_of c.args.body.now) in
    let around = c.in_loop.ensures.context ∙ λ i. record here { breaks = (c.as_slice.ensures ∙ whole) i; continues = (c.as_slice-2.ensures ∙ turn) i } in
    while_done here c.args.pos scope (copy (contexts.in_loop here c.args.pos) scope) test whole (c.nothing-next.ensures scope)
    (h scope inner (copy (contexts.in_loop here c.args.pos) scope) (copied_in {y = contexts.in_loop here c.args.pos} scope copy inner c.statement-body.result around c.statement-body.ensures)))

pub while_loop-statement-body-requires : goal.while_loop-statement-body-requires
while_loop-statement-body-requires t c =
    (level c.args.calls (deepest c.args.self.now.functions.now.all.items) (deepest c.in_loop.result.functions.now.all.items) (heights.height (tree.statement_of c.args.body.now)) 1 (heights.height (tree.statement_of c.args.body.now)) 0 0 c.decreases (ap (λ f. deepest f.now.all.items) c.in_loop.ensures.functions) refl refl, tt)

pub do_while-looped_until-requires : goal.do_while-looped_until-requires
do_while-looped_until-requires t c = c.in_ok-paths.ensures.turn ∙ ap paths.path_of_turn (sym c.in_ok-paths.ensures.whole)

pub do_while-returns : goal.do_while-returns
do_while-returns t c =
    let here = context_of c.args.self.now in
    let scope = scope_of c.args.scope.now in
    let inner = scope_of c.statement-body.new.scope in
    let whole = c.in_ok-paths.ensures.whole in
    let copy = spec.statement_copy (spec.calls_copy c.args.calls) (tree.statement_of c.args.body.now) in
    let around = c.in_loop.ensures.context ∙ λ i. record here { breaks = (c.as_slice.ensures ∙ whole) i; continues = (c.as_slice-2.ensures ∙ c.in_ok-paths.ensures.turn) i } in
    let body = copy (contexts.in_loop here c.args.pos) scope in
    let known = copied_in {y = contexts.in_loop here c.args.pos} scope copy inner c.statement-body.result around c.statement-body.ensures in
    let test = tree.expression_of c.args.test.now in
    given_on c.looped_until.result {Q = λ x. copy_of x inner ≡ flow.do_while_copy here c.args.pos test body} c.looped_until.ensures
    (λ _ h. do_done here c.args.pos test scope refl whole refl refl (h body known))

pub do_while-statement-body-requires : goal.do_while-statement-body-requires
do_while-statement-body-requires t c =
    (level c.args.calls (deepest c.args.self.now.functions.now.all.items) (deepest c.in_loop.result.functions.now.all.items) (heights.height (tree.statement_of c.args.body.now)) 1 (heights.height (tree.statement_of c.args.body.now)) 0 0 c.decreases (ap (λ f. deepest f.now.all.items) c.in_loop.ensures.functions) refl refl, tt)

pub for_loop-leave-requires : goal.for_loop-leave-requires
for_loop-leave-requires t c =
    let here = context_of c.args.self.now in
    let copies' = spec.calls_copy c.args.calls in
    let copied = c.in_ok-copied.ensures (scope_of c.maybe.new.scope) (scope_of c.for_turns-turns.new.scope) _ c.for_turns-turns.ensures in
    grown_fits (for_grows c.args.calls here c.args.pos (scope_of c.args.scope.now) (option_map tree.expression_of c.args.test.now) (spec.maybe_copy copies' (tree.maybe_of c.args.next.now) here) (tree.maybe_of c.args.first.now) (tree.statement_of c.args.body.now) c.in_ok-first.ensures copied) c.len-known.ensures

pub for_loop-returns : goal.for_loop-returns
for_loop-returns t c =
    let here = context_of c.args.self.now in
    let scope = scope_of c.args.scope.now in
    let copies' = spec.calls_copy c.args.calls in
    let test = option_map tree.expression_of c.args.test.now in
    let next = spec.maybe_copy copies' (tree.maybe_of c.args.next.now) here in
    let body = spec.statement_copy copies' (tree.statement_of c.args.body.now) (contexts.in_loop here c.args.pos) in
    let copied = c.in_ok-copied.ensures (scope_of c.maybe.new.scope) (scope_of c.for_turns-turns.new.scope) _ c.for_turns-turns.ensures in
    let left = left_as (for_grows c.args.calls here c.args.pos scope test next (tree.maybe_of c.args.first.now) (tree.statement_of c.args.body.now) c.in_ok-first.ensures copied) c.len-known.ensures c.leave.ensures in
    λ i. copies.in_scope_of (left i) (followed_done (flow.for_parts here c.args.pos test next body) c.in_ok-first.ensures refl copied i)

pub for_loop-maybe-requires : goal.for_loop-maybe-requires
for_loop-maybe-requires t c =
    let next = max (heights.height_of_maybe (tree.maybe_of c.args.next.now)) (heights.height (tree.statement_of c.args.body.now)) in
    (in_first c.args.calls (deepest c.args.self.now.functions.now.all.items) (deepest c.args.self.now.functions.now.all.items) (heights.height_of_maybe (tree.maybe_of c.args.first.now)) next 3 1 1 c.decreases refl refl, tt)

pub for_loop-for_turns-turns-requires : goal.for_loop-for_turns-turns-requires
for_loop-for_turns-turns-requires t c =
    let next = max (heights.height_of_maybe (tree.maybe_of c.args.next.now)) (heights.height (tree.statement_of c.args.body.now)) in
    (in_second c.args.calls (deepest c.args.self.now.functions.now.all.items) (deepest c.args.self.now.functions.now.all.items) (heights.height_of_maybe (tree.maybe_of c.args.first.now)) next 3 2 0 c.decreases refl refl, tt)

pub for_turns-leave-requires : goal.for_turns-leave-requires
for_turns-leave-requires t c =
    let here = context_of c.args.self.now in
    let scope = scope_of c.args.scope.now in
    let next = rw c.in_ok-paths-2.ensures.made at c.maybe-next.ensures in
    grown_fits (grown_by scope next (maybe_grows (spec.calls_copy c.args.calls) (calls_keep c.args.calls) (tree.maybe_of c.args.next.now) here scope)) c.len-known.ensures

pub for_turns-looped-requires : goal.for_turns-looped-requires
for_turns-looped-requires t c =
    let paths' = c.in_ok-paths-2.ensures.value in
    let whole = rw c.in_ok-paths.ensures.first at c.loop_paths-paths.ensures.whole in
    let turn = rw c.in_ok-paths.ensures.first at c.loop_paths-paths.ensures.turn in
    ap (λ p. p.0.turn) paths' ∙ turn ∙ ap paths.path_of_turn (sym (ap (λ p. p.0.whole) paths' ∙ whole))

pub for_turns-returns : goal.for_turns-returns
for_turns-returns t c = given_on c.looped.result c.looped.ensures (λ _ h.
    let here = context_of c.args.self.now in
    let scope = scope_of c.args.scope.now in
    let inner = scope_of c.statement-body.new.scope in
    let copies' = spec.calls_copy c.args.calls in
    let paths' = c.in_ok-paths-2.ensures.value in
    let whole = ap (λ p. p.0.whole) paths' ∙ (rw c.in_ok-paths.ensures.first at c.loop_paths-paths.ensures.whole) in
    let turn = ap (λ p. p.0.turn) paths' ∙ (rw c.in_ok-paths.ensures.first at c.loop_paths-paths.ensures.turn) in
    let test = ap (λ p. kernel.expression_of p.1) paths' ∙ (rw c.in_ok-paths.ensures.second at c.test_or_true-test.ensures) in
    let next = rw c.in_ok-paths-2.ensures.made at c.maybe-next.ensures in
    let left = left_as (grown_by scope next (maybe_grows copies' (calls_keep c.args.calls) (tree.maybe_of c.args.next.now) here scope)) c.len-known.ensures c.leave.ensures in
    let around = c.in_loop.ensures.context ∙ λ i. record here { breaks = (c.as_slice.ensures ∙ whole) i; continues = (c.as_slice-2.ensures ∙ turn) i } in
    let copy = spec.statement_copy copies' (tree.statement_of c.args.body.now) in
    let body = copy (contexts.in_loop here c.args.pos) scope in
    h (scope_of c.maybe-next.new.scope) inner body (copied_as inner c.statement-body.result (λ i. copy (around i) (left i)) c.statement-body.ensures)
    ∙ λ i. flow.loop_at here (whole i) (test i) (flow.iteration here (whole i) body.code []) (copies.code_of (next i)) (copies.joined (next i) body))

pub for_turns-maybe-next-requires : goal.for_turns-maybe-next-requires
for_turns-maybe-next-requires t c =
    (in_first c.args.calls (deepest c.args.self.now.functions.now.all.items) (deepest c.args.self.now.functions.now.all.items) (heights.height_of_maybe (tree.maybe_of c.args.next.now)) (heights.height (tree.statement_of c.args.body.now)) 2 1 0 c.decreases refl refl, tt)

pub for_turns-statement-body-requires : goal.for_turns-statement-body-requires
for_turns-statement-body-requires t c =
    (in_second c.args.calls (deepest c.args.self.now.functions.now.all.items) (deepest c.in_loop.result.functions.now.all.items) (heights.height_of_maybe (tree.maybe_of c.args.next.now)) (heights.height (tree.statement_of c.args.body.now)) 2 0 1 c.decreases (ap (λ f. deepest f.now.all.items) c.in_loop.ensures.functions) refl, tt)

pub transaction-leave-requires : goal.transaction-leave-requires
transaction-leave-requires t c =
    let scope = scope_of c.args.scope.now in
    let ss = plain.statements (map tree.statement_of c.args.ss.now) in
    grown_fits (grown_by scope c.in_ok-inside.ensures (statements_grow (spec.calls_copy c.args.calls) (calls_keep c.args.calls) ss (context_of c.args.self.now) scope)) c.len-known.ensures

pub transaction-returns : goal.transaction-returns
transaction-returns t c = given_on c.and_statement.result c.and_statement.ensures (λ _ h.
    let here = context_of c.args.self.now in
    let scope = scope_of c.args.scope.now in
    let inner = scope_of c.statements.new.scope in
    let ss = plain.statements (map tree.statement_of c.args.ss.now) in
    let grows = grown_by scope c.in_ok-inside.ensures (statements_grow (spec.calls_copy c.args.calls) (calls_keep c.args.calls) ss here scope) in
    let ends = left_as grows c.len-known.ensures c.leave.ensures in
    let left = copy_of c.take_code-body.new.self inner in
    let tran = kernel.statement_of (Tran c.channel-chan.result c.args.master c.take_code-body.result c.args.start c.args.close) in
    transaction_done here scope c.args.master c.args.start c.args.close c.in_ok-inside.ensures (c.first_named.ensures inner) c.channel-chan.ensures (c.take_code-body.ensures.code inner) (c.take_code-body.ensures.left inner)
    (statement-Tran c.channel-chan.result c.args.master c.take_code-body.result c.args.start c.args.close)
    (h (scope_of c.leave.new.self) ∙ λ i. copies.in_scope_of (ends i) (copies.with_code left (left.code ++ tran ∷ []))))

pub transaction-statements-requires : goal.transaction-statements-requires
transaction-statements-requires t c =
    (level c.args.calls (deepest c.args.self.now.functions.now.all.items) (deepest c.args.self.now.functions.now.all.items) (heights.height_of_statements (plain.statements (map tree.statement_of c.args.ss.now))) 2 (heights.height_of_statements (plain.statements (map tree.statement_of c.args.ss.now))) 1 0 c.decreases refl refl refl, tt)

pub statements-loop-s-init : goal.statements-loop-s-init
statements-loop-s-init t c =
    let here = context_of c.args.self.now in
    let copies' = spec.calls_copy c.args.calls in
    let ss = plain.statements (map tree.statement_of c.args.ss.now) in
    ap (λ x. copies.followed_by x (spec.statements_copy copies' ss here)) (c.nothing-copied.ensures (scope_of c.args.scope.now))

pub statements-loop-s-preserved : goal.statements-loop-s-preserved
statements-loop-s-preserved t c =
    statements_more (spec.calls_copy c.args.calls) (context_of c.args.self.now) c.args.ss.now c.loop-s.s-index c.s-item.result c.s-item.is c.loop-s-test.true
    (copy_of c.loop-s.copied (scope_of c.loop-s.scope)) refl (c.in_ok-copied.ensures (scope_of c.loop-s.scope) (scope_of c.statement-next.new.scope) _ c.statement-next.ensures) c.loop-s.invariant

pub statements-returns : goal.statements-returns
statements-returns t c =
    statements_all (spec.calls_copy c.args.calls) (context_of c.args.self.now) c.args.ss.now c.loop-s.s-index c.loop-s-test.false (copy_of c.loop-s.copied (scope_of c.loop-s.scope)) c.loop-s.invariant

pub statements-statement-next-requires : goal.statements-statement-next-requires
statements-statement-next-requires t c =
    (statement_below c.args.calls (deepest c.args.self.now.functions.now.all.items) c.args.ss.now c.loop-s.s-index c.s-item.result c.decreases c.s-item.is c.loop-s-test.true, tt)

pub declarations-loop-d-init : goal.declarations-loop-d-init
declarations-loop-d-init t c =
    let here = context_of c.args.self.now in
    let copies' = spec.calls_copy c.args.calls in
    ap (λ x. copies.followed_by x (declarations.declarations_copy copies' here (map tree.declaration_of c.args.ds.now))) (c.nothing-copied.ensures (scope_of c.args.scope.now))

pub declarations-loop-d-preserved : goal.declarations-loop-d-preserved
declarations-loop-d-preserved t c =
    declarations_more (spec.calls_copy c.args.calls) (context_of c.args.self.now) c.args.ds.now c.loop-d.d-index c.d-item.result c.d-item.is c.loop-d-test.true
    (copy_of c.loop-d.copied (scope_of c.loop-d.scope)) refl (c.in_ok-copied.ensures (scope_of c.loop-d.scope) (scope_of c.declaration-next.new.scope) _ c.declaration-next.ensures) c.loop-d.invariant

pub declarations-returns : goal.declarations-returns
declarations-returns t c =
    declarations_all (spec.calls_copy c.args.calls) (context_of c.args.self.now) c.args.ds.now c.loop-d.d-index c.loop-d-test.false (copy_of c.loop-d.copied (scope_of c.loop-d.scope)) c.loop-d.invariant

pub declarations-declaration-next-requires : goal.declarations-declaration-next-requires
declarations-declaration-next-requires t c =
    let d = deepest c.args.self.now.functions.now.all.items in
    (level c.args.calls d d 0 6 0 5 0 c.decreases refl refl refl, tt)

pub par-loop-index-init : goal.par-loop-index-init
par-loop-index-init t c =
    let bs = plain.branches (map tree.branch_of c.args.bs.now) in
    c.none-branches.ensures (spec.branches_copy (spec.calls_copy c.args.calls) bs 0 (context_of c.args.self.now) (scope_of c.args.scope.now))

pub par-loop-index-preserved : goal.par-loop-index-preserved
par-loop-index-preserved t c =
    let b = c.index-bs-index.result in
    let after = scope_of c.branch-copied.new.scope in
    let copied = rw c.in_ok-before.ensures.made at c.branch-copied.ensures in
    branches_more (spec.calls_copy c.args.calls) (context_of c.args.self.now) c.args.bs.now c.loop-index.index b c.index-bs-index.is c.loop-index-test.true (scope_of c.loop-index.scope) c.loop-index.branches c.in_ok-branches.branches copied
    (and_made c.in_ok-branches.branches (copy_of c.in_ok-before.copied after) c.in_ok-before.ensures.value (begins_at b) (c.in_ok-branches.ensures after))
    c.loop-index.invariant

pub par-returns : goal.par-returns
par-returns t c = given_on c.as_par.result c.as_par.ensures (λ _ h.
    let scope = scope_of c.loop-index.scope in
    h scope
    ∙ ap flow.par_copy (branches_all (spec.calls_copy c.args.calls) (context_of c.args.self.now) c.args.bs.now c.loop-index.index c.loop-index-test.false scope c.loop-index.branches c.loop-index.invariant))

pub par-branch-copied-requires : goal.par-branch-copied-requires
par-branch-copied-requires t c = (
  branches_below c.args.calls (deepest c.args.self.now.functions.now.all.items) c.args.bs.now c.loop-index.index c.index-bs-index.result c.decreases c.index-bs-index.is c.loop-index-test.true,
  tt,
)

pub branch-returns : goal.branch-returns
branch-returns t c = given_on c.statement-copied.result c.statement-copied.ensures (λ _ h.
    let here = context_of c.args.self.now in
    let copies' = spec.calls_copy c.args.calls in
    let scope = scope_of c.args.scope.now in
    let b = c.args.b.now in
    let context = c.in_branch.ensures.context ∙ ap (λ p. record here { path = p }) (c.as_slice.ensures ∙ c.in_ok-path.ensures) in
    h ∙ ap (λ x. spec.statement_copy copies' (tree.statement_of b.body) x scope) context ∙ in_branch_of copies' b (contexts.in_branch here c.args.index) scope)

pub branch-statement-copied-requires : goal.branch-statement-copied-requires
branch-statement-copied-requires t c =
    (branch_below c.args.calls (deepest c.args.self.now.functions.now.all.items) (deepest c.in_branch.result.functions.now.all.items) c.args.b.now c.decreases (ap (λ f. deepest f.now.all.items) c.in_branch.ensures.functions), tt)

pub replicated-loop-number-init : goal.replicated-loop-number-init
replicated-loop-number-init t c =
    let scope = scope_of c.args.scope.now in
    let copy = flow.numbered_copy (spec.branch_copy (spec.calls_copy c.args.calls) (tree.branch_of c.args.b.now)) (context_of c.args.self.now) scope c.args.name.now.text in
    let pos = spec.pos_of_branch (tree.branch_of c.args.b.now) in
    record {
      above = no_less c.args.from;
      scope = refl;
      branches = c.none-branches.ensures (flow.replicated copy pos scope (c.args.until - c.args.from) (c.args.from - c.args.from) c.args.from) ∙ numbered_begun copy pos scope c.args.from c.args.until;
    }

pub replicated-loop-number-preserved : goal.replicated-loop-number-preserved
replicated-loop-number-preserved t c =
    let copies' = spec.calls_copy c.args.calls in
    let scope = scope_of c.args.scope.now in
    let b = c.args.b.now in
    let inv = c.loop-number.invariant in
    let copy = flow.numbered_copy (spec.branch_copy copies' (tree.branch_of b)) (context_of c.args.self.now) scope c.args.name.now.text in
    let numbered = flow.numbered_copy (spec.branch_copy copies' (tree.branch_of b)) (context_of c.args.self.now) in
    let copied = (rw c.in_ok-before.ensures.made at c.numbered-copied.ensures) ∙ ap (λ s. numbered s c.args.name.now.text (c.loop-number.number - c.args.from) c.loop-number.number) inv.scope in
    record {
      above = one_above _ _ inv.above;
      scope = ap (λ x. x.scope) copied;
      branches = numbered_more copy (spec.pos_of_branch (tree.branch_of b)) scope c.args.from c.args.until c.loop-number.number inv.above c.loop-number-test.true c.loop-number.branches c.in_ok-branches.branches
          copied
          (and_made c.in_ok-branches.branches (copy_of c.in_ok-before.copied (scope_of c.numbered-copied.new.scope)) c.in_ok-before.ensures.value (begins_at b) (c.in_ok-branches.ensures (scope_of c.numbered-copied.new.scope)))
          inv.branches;
    }

pub replicated-returns : goal.replicated-returns
replicated-returns t c = given_on c.as_par.result c.as_par.ensures (λ _ h.
    let here = context_of c.args.self.now in
    let scope = scope_of c.args.scope.now in
    let b = c.args.b.now in
    let inv = c.loop-number.invariant in
    let copy = flow.numbered_copy (spec.branch_copy (spec.calls_copy c.args.calls) (tree.branch_of b)) here scope c.args.name.now.text in
    h (scope_of c.loop-number.scope)
    ∙ ap (λ s. flow.par_copy (branched_before c.loop-number.branches (flow.no_branches s))) inv.scope
    ∙ ap flow.par_copy (numbered_all copy (spec.pos_of_branch (tree.branch_of b)) scope c.args.from c.args.until c.loop-number.number c.loop-number-test.false c.loop-number.branches inv.branches))

pub replicated-numbered-copied-requires : goal.replicated-numbered-copied-requires
replicated-numbered-copied-requires t c =
    let height = heights.height_of_branch (tree.branch_of c.args.b.now) in
    (level c.args.calls (deepest c.args.self.now.functions.now.all.items) (deepest c.args.self.now.functions.now.all.items) height 3 height 2 0 c.decreases refl refl refl, tt)

pub numbered-leave-requires : goal.numbered-leave-requires
numbered-leave-requires t c =
    let name = c.in_ok-declare.ensures ∙ ap (λ n. scopes.with_name (scope_of c.args.scope.now) n (scopes.a_constant c.args.number)) c.as_slice.ensures in
    grown_fits (numbered_grows c.args.calls c.args.b.now (contexts.in_branch (context_of c.args.self.now) c.args.index) c.args.name.now.text (scopes.a_constant c.args.number) name c.in_ok-copied.ensures) c.len-known.ensures

pub numbered-returns : goal.numbered-returns
numbered-returns t c =
    let inner = contexts.in_branch (context_of c.args.self.now) c.args.index in
    let b = c.args.b.now in
    let name = c.in_ok-declare.ensures ∙ ap (λ n. scopes.with_name (scope_of c.args.scope.now) n (scopes.a_constant c.args.number)) c.as_slice.ensures in
    let left = left_as (numbered_grows c.args.calls b inner c.args.name.now.text (scopes.a_constant c.args.number) name c.in_ok-copied.ensures) c.len-known.ensures c.leave.ensures in
    λ i. copies.in_scope_of (left i) ((c.in_ok-copied.ensures ∙ ap (spec.branch_copy (spec.calls_copy c.args.calls) (tree.branch_of b) inner) name) i)

pub numbered-branch-self-requires : goal.numbered-branch-self-requires
numbered-branch-self-requires t c =
    let height = heights.height_of_branch (tree.branch_of c.args.b.now) in
    (level c.args.calls (deepest c.args.self.now.functions.now.all.items) (deepest c.args.self.now.functions.now.all.items) height 2 height 1 0 c.decreases refl refl refl, tt)

pub select-loop-case-init : goal.select-loop-case-init
select-loop-case-init t c =
    let cs = plain.cases (map tree.case_of c.args.cs.now) in
    record {
      scope = refl;
      cases = c.none-cases.ensures (spec.cases_copy (spec.calls_copy c.args.calls) cs (context_of c.args.self.now) (scope_of c.args.scope.now));
    }

pub select-leave-requires : goal.select-leave-requires
select-leave-requires t c =
    let names = rw c.in_ok-cases.ensures.done at c.case-added.ensures.names in
    grown_fits (grown_from c.loop-case.invariant.scope names) c.len-known.ensures

pub select-loop-case-preserved : goal.select-loop-case-preserved
select-loop-case-preserved t c =
    let here = context_of c.args.self.now in
    let copies' = spec.calls_copy c.args.calls in
    let x = c.case-item.result in
    let inv = c.loop-case.invariant in
    let names = rw c.in_ok-cases.ensures.done at c.case-added.ensures.names in
    let added = rw c.in_ok-cases.ensures.done at c.case-added.ensures.cases in
    record {
      scope = left_as (grown_from inv.scope names) c.len-known.ensures c.leave.ensures;
      cases = cases_more copies' here c.args.cs.now c.loop-case.case-index x c.case-item.is c.loop-case-test.true (scope_of c.args.scope.now) c.loop-case.cases c.in_ok-cases.cases
          (λ others. ap (λ y. cased_before y others) c.in_ok-cases.ensures.value ∙ added others ∙ ap (λ s. cased_before c.loop-case.cases (spec.case_copy copies' (tree.case_of x) here s others)) inv.scope)
          inv.cases;
    }

pub select-returns : goal.select-returns
select-returns t c = given_on c.as_select.result c.as_select.ensures (λ _ h.
    let scope = scope_of c.args.scope.now in
    let inv = c.loop-case.invariant in
    h (scope_of c.loop-case.scope)
    ∙ ap (λ s. flow.select_copy s c.args.pos (cased_before c.loop-case.cases (flow.no_cases s))) inv.scope
    ∙ ap (flow.select_copy scope c.args.pos) (cases_all (spec.calls_copy c.args.calls) (context_of c.args.self.now) c.args.cs.now c.loop-case.case-index c.loop-case-test.false scope c.loop-case.cases inv.cases))

pub select-case-added-requires : goal.select-case-added-requires
select-case-added-requires t c =
    (case_below c.args.calls (deepest c.args.self.now.functions.now.all.items) c.args.cs.now c.loop-case.case-index c.case-item.result c.decreases c.case-item.is c.loop-case-test.true, tt)

pub case-returns-clause-cases : goal.case-returns-clause-cases
case-returns-clause-cases t c = given_on_ok c.add_case.result c.add_case.ensures.cases (λ h.
    let path = rw c.in_ok-path.ensures.first at c.path_at-path.ensures in
    let names = rw c.in_ok-path.ensures.second at c.opened-opened.ensures.names in
    let head = rw c.in_ok-path.ensures.second at c.opened-opened.ensures.head in
    case_done (spec.calls_copy c.args.calls) (context_of c.args.self.now) (scope_of c.args.scope.now) c.args.case.now _ c.args.cases.now c.add_case.new.cases
    path c.as_slice.ensures c.in_case.ensures.context c.as_slice-2.ensures names head
    refl (h (scope_of c.opened-opened.new.scope) (scope_of c.statements-body.new.scope) _ c.statements-body.ensures))

pub case-returns-clause-names : goal.case-returns-clause-names
case-returns-clause-names t c = given_on_ok c.add_case.result c.add_case.ensures.made (λ h.
    let ss = plain.statements (map tree.statement_of c.as_slice-2.result.now) in
    let inner = scope_of c.opened-opened.new.scope in
    let grows = rw c.in_ok-path.ensures.second at c.opened-opened.ensures.grows in
    further grows (grown_where c.statements-body.result inner (scope_of c.statements-body.new.scope) _ h c.statements-body.ensures (statements_grow (spec.calls_copy c.args.calls) (calls_keep c.args.calls) ss (context_of c.in_case.result) inner)))

pub case-statements-body-requires : goal.case-statements-body-requires
case-statements-body-requires t c = (
  body_below c.args.calls (deepest c.args.self.now.functions.now.all.items) (deepest c.in_case.result.functions.now.all.items) c.args.case.now c.as_slice-2.result.now
      c.decreases (ap (λ f. deepest f.now.all.items) c.in_case.ensures.functions) c.as_slice-2.ensures,
  tt,
)
