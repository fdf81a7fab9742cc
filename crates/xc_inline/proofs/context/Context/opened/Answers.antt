use Rattle.std.proofs.Common.{[], ap, sym, ◌∙◌}
use Rattle.std.specs.Option.{option_map}
use Rattle.xc_tree.specs.Trees as tree
use Rattle.xc_tree.specs.declared.tree.Case.{out-Case}
use Rattle.xc_kernel.specs.Calls.{as_block}
use Rattle.xc_kernel.specs.Copy.{joined, with_code, code_of}
use Rattle.xc_kernel.specs.Flow as flow
use Rattle.xc_kernel.specs.Paths.{path_at}
use Rattle.xc_kernel.specs.Plain as kernel
use Rattle.xc_kernel.specs.Statements as spec
use Rattle.xc_inline.specs.Contexts.{context_of}
use Rattle.xc_inline.specs.Scopes.{scope_of}
use Rattle.xc_inline.proofs.Laws.Growth.{calls_keep, as_before, grown_by, target_grows}
use Rattle.xc_inline.proofs.context.Context.opened.Goals as goal

pub returns-in-None-clause-head : goal.returns-in-None-clause-head
returns-in-None-clause-head c = λ body others.
    let here = context_of c.args.self.now in
    let scope = scope_of c.args.scope.now in
    let guard = option_map tree.expression_of (out-Case c.args.case.now).guard in
    ap (λ h. flow.and_case here scope (out-Case c.args.case.now).pos guard (option_map tree.input_of h) body others) (sym c.in-None.is)

pub returns-in-None-clause-names : goal.returns-in-None-clause-names
returns-in-None-clause-names c =
    ap (λ h. flow.case_scope (context_of c.args.self.now) (scope_of c.args.scope.now) (option_map tree.input_of h)) (sym c.in-None.is)

pub returns-in-None-clause-grows : goal.returns-in-None-clause-grows
returns-in-None-clause-grows c = as_before (scope_of c.args.scope.now)

pub returns-in_ok-guard-in-Some-clause-head : goal.returns-in_ok-guard-in-Some-clause-head
returns-in_ok-guard-in-Some-clause-head c = λ body others.
    let here = context_of c.args.self.now in
    let scope = scope_of c.args.scope.now in
    let pos = (out-Case c.args.case.now).pos in
    let wanted = option_map tree.expression_of (out-Case c.args.case.now).guard in
    let block = as_block here (path_at here.path pos) body in
    let guard = rw c.in_ok-guard-in-Some.ensures.first at c.guard-guard.ensures in
    let head = rw c.in_ok-guard-in-Some.ensures.second at c.received-received.ensures.head in
    let names = rw c.in_ok-guard-in-Some.ensures.second at c.received-received.ensures.names in
    (λ i. record { made = joined (joined (names i) (with_code block [])) others.made; cases = kernel.more_cases (kernel.case (guard i) (head i) (code_of block)) others.cases; otherwise = others.otherwise })
    ∙ ap (λ h. flow.and_case here scope pos wanted (option_map tree.input_of h) body others) (sym c.in-Some.is)

pub returns-in_ok-guard-in-Some-clause-names : goal.returns-in_ok-guard-in-Some-clause-names
returns-in_ok-guard-in-Some-clause-names c =
    let names = rw c.in_ok-guard-in-Some.ensures.second at c.received-received.ensures.names in
    ap (λ copy. copy.scope) names
    ∙ ap (λ h. flow.case_scope (context_of c.args.self.now) (scope_of c.args.scope.now) (option_map tree.input_of h)) (sym c.in-Some.is)

pub returns-in_ok-guard-in-Some-clause-grows : goal.returns-in_ok-guard-in-Some-clause-grows
returns-in_ok-guard-in-Some-clause-grows c =
    let names = rw c.in_ok-guard-in-Some.ensures.second at c.received-received.ensures.names in
    grown_by (scope_of c.args.scope.now) names
    (target_grows (spec.calls_copy 0) (calls_keep 0) (context_of c.args.self.now) (scope_of c.args.scope.now) (tree.input_of c.in-Some.head).target)
