use Rattle.std.proofs.Common.{◌≡◌, ◌≤◌, ◌-◌, drop, map, max}
use Rattle.xc_tree.specs.Trees as tree
use Rattle.xc_tree.specs.Plain as plain
use Rattle.xc_kernel.specs.Copy as copies
use Rattle.xc_kernel.specs.Declarations as declarations
use Rattle.xc_kernel.specs.Flow as flow
use Rattle.xc_kernel.specs.Statements as spec
use Rattle.xc_inline.specs.Contexts.{context_of}
use Rattle.xc_inline.specs.Copied.{copy_of}
use Rattle.xc_inline.specs.Functions.{deepest}
use Rattle.xc_tree.specs.Heights as heights
use Rattle.xc_inline.specs.Parts.{branched_before, cased_before}
use Rattle.xc_inline.specs.Scopes.{scope_of}
use Rattle.xc_inline.proofs.Laws.Depths.{distance}
use Rattle.xc_inline.proofs.context.Context.+statement.Given as goal

-- The walk of a function's body.

abbrev pub decreases-statement : goal.decreases-statement
decreases-statement l = distance l.calls (deepest l.self.now.functions.now.all.items) (heights.height (tree.statement_of l.s.now)) 0

abbrev pub decreases-maybe : goal.decreases-maybe
decreases-maybe l = distance l.calls (deepest l.self.now.functions.now.all.items) (heights.height_of_maybe (tree.maybe_of l.s.now)) 1

abbrev pub decreases-statements : goal.decreases-statements
decreases-statements l = distance l.calls (deepest l.self.now.functions.now.all.items) (heights.height_of_statements (plain.statements (map tree.statement_of l.ss.now))) 1

abbrev pub decreases-block : goal.decreases-block
decreases-block l = distance l.calls (deepest l.self.now.functions.now.all.items) (heights.height_of_statements (plain.statements (map tree.statement_of l.ss.now))) 2

abbrev pub decreases-transaction : goal.decreases-transaction
decreases-transaction l = distance l.calls (deepest l.self.now.functions.now.all.items) (heights.height_of_statements (plain.statements (map tree.statement_of l.ss.now))) 2

abbrev pub decreases-case : goal.decreases-case
decreases-case l = distance l.calls (deepest l.self.now.functions.now.all.items) (heights.height_of_case (tree.case_of l.case.now)) 2

abbrev pub decreases-select : goal.decreases-select
decreases-select l = distance l.calls (deepest l.self.now.functions.now.all.items) (heights.height_of_cases (plain.cases (map tree.case_of l.cs.now))) 3

abbrev pub decreases-par : goal.decreases-par
decreases-par l = distance l.calls (deepest l.self.now.functions.now.all.items) (heights.height_of_branches (plain.branches (map tree.branch_of l.bs.now))) 2

abbrev pub decreases-replicated : goal.decreases-replicated
decreases-replicated l = distance l.calls (deepest l.self.now.functions.now.all.items) (heights.height_of_branch (tree.branch_of l.b.now)) 3

abbrev pub decreases-numbered : goal.decreases-numbered
decreases-numbered l = distance l.calls (deepest l.self.now.functions.now.all.items) (heights.height_of_branch (tree.branch_of l.b.now)) 2

abbrev pub decreases-branch : goal.decreases-branch
decreases-branch l = distance l.calls (deepest l.self.now.functions.now.all.items) (heights.height_of_branch (tree.branch_of l.b.now)) 1

abbrev pub decreases-choice : goal.decreases-choice
decreases-choice l = distance l.calls (deepest l.self.now.functions.now.all.items) (max (heights.height (tree.statement_of l.first.now)) (heights.height_of_maybe (tree.maybe_of l.second.now))) 2

abbrev pub decreases-while_loop : goal.decreases-while_loop
decreases-while_loop l = distance l.calls (deepest l.self.now.functions.now.all.items) (heights.height (tree.statement_of l.body.now)) 1

abbrev pub decreases-do_while : goal.decreases-do_while
decreases-do_while l = distance l.calls (deepest l.self.now.functions.now.all.items) (heights.height (tree.statement_of l.body.now)) 1

abbrev pub decreases-for_loop : goal.decreases-for_loop
decreases-for_loop l = distance l.calls (deepest l.self.now.functions.now.all.items) (max (heights.height_of_maybe (tree.maybe_of l.first.now)) (max (heights.height_of_maybe (tree.maybe_of l.next.now)) (heights.height (tree.statement_of l.body.now)))) 3

abbrev pub decreases-for_turns : goal.decreases-for_turns
decreases-for_turns l = distance l.calls (deepest l.self.now.functions.now.all.items) (max (heights.height_of_maybe (tree.maybe_of l.next.now)) (heights.height (tree.statement_of l.body.now))) 2

-- What holds no statement.

abbrev pub decreases-declarations : goal.decreases-declarations
decreases-declarations l = distance l.calls (deepest l.self.now.functions.now.all.items) 0 6

abbrev pub decreases-declaration : goal.decreases-declaration
decreases-declaration l = distance l.calls (deepest l.self.now.functions.now.all.items) 0 5

abbrev pub decreases-initial : goal.decreases-initial
decreases-initial l = distance l.calls (deepest l.self.now.functions.now.all.items) 0 4

abbrev pub decreases-assign : goal.decreases-assign
decreases-assign l = distance l.calls (deepest l.self.now.functions.now.all.items) 0 4

abbrev pub decreases-return_with : goal.decreases-return_with
decreases-return_with l = distance l.calls (deepest l.self.now.functions.now.all.items) 0 4

abbrev pub decreases-right : goal.decreases-right
decreases-right l = distance l.calls (deepest l.self.now.functions.now.all.items) 0 3

abbrev pub decreases-call : goal.decreases-call
decreases-call l = distance l.calls (deepest l.self.now.functions.now.all.items) 0 2

-- A call: any body may follow.

abbrev pub decreases-function : goal.decreases-function
decreases-function l = distance l.calls (deepest l.self.now.functions.now.all.items) (deepest l.self.now.functions.now.all.items) 1

-- What has been copied, before the copy of the rest, is the copy of all.

abbrev pub invariant-statements-loop-s : goal.invariant-statements-loop-s
invariant-statements-loop-s l =
    copies.followed_by (copy_of l.copied (scope_of l.scope)) (spec.statements_copy (spec.calls_copy l.calls) (plain.statements (map tree.statement_of (drop l.s-index l.ss))) (context_of l.self))
    ≡ spec.statements_copy (spec.calls_copy l.calls) (plain.statements (map tree.statement_of l.ss)) (context_of l.self) (scope_of l.initial.scope)

abbrev pub invariant-declarations-loop-d : goal.invariant-declarations-loop-d
invariant-declarations-loop-d l =
    copies.followed_by (copy_of l.copied (scope_of l.scope)) (declarations.declarations_copy (spec.calls_copy l.calls) (context_of l.self) (map tree.declaration_of (drop l.d-index l.ds)))
    ≡ declarations.declarations_copy (spec.calls_copy l.calls) (context_of l.self) (map tree.declaration_of l.ds) (scope_of l.initial.scope)

abbrev pub invariant-par-loop-index : goal.invariant-par-loop-index
invariant-par-loop-index l =
    branched_before l.branches (spec.branches_copy (spec.calls_copy l.calls) (plain.branches (map tree.branch_of (drop l.index l.bs))) l.index (context_of l.self) (scope_of l.scope))
    ≡ spec.branches_copy (spec.calls_copy l.calls) (plain.branches (map tree.branch_of l.bs)) 0 (context_of l.self) (scope_of l.initial.scope)

abbrev pub invariant-replicated-loop-number : goal.invariant-replicated-loop-number
invariant-replicated-loop-number l =
    let copy = flow.numbered_copy (spec.branch_copy (spec.calls_copy l.calls) (tree.branch_of l.b)) (context_of l.self) (scope_of l.initial.scope) l.name.text in
    let pos = spec.pos_of_branch (tree.branch_of l.b) in
    record {
      above : l.from ≤ l.number;
      scope : scope_of l.scope ≡ scope_of l.initial.scope;
      branches : branched_before l.branches (flow.replicated copy pos (scope_of l.initial.scope) (l.until - l.number) (l.number - l.from) l.number)
          ≡ flow.replicated copy pos (scope_of l.initial.scope) (l.until - l.from) 0 l.from;
    }

abbrev pub invariant-select-loop-case : goal.invariant-select-loop-case
invariant-select-loop-case l = record {
  scope : scope_of l.scope ≡ scope_of l.initial.scope;
  cases : cased_before l.cases (spec.cases_copy (spec.calls_copy l.calls) (plain.cases (map tree.case_of (drop l.case-index l.cs))) (context_of l.self) (scope_of l.initial.scope))
      ≡ spec.cases_copy (spec.calls_copy l.calls) (plain.cases (map tree.case_of l.cs)) (context_of l.self) (scope_of l.initial.scope);
}
