use Rattle.std.proofs.Common.{ap, sym, ◌∙◌, ◌-◌, map}
use Rattle.xc_tree.specs.Trees as tree
use Rattle.xc_tree.proofs.Forms.{action-Decl, action-Par, action-Repl}
use Rattle.xc_kernel.specs.Declarations.{declarations_copy}
use Rattle.xc_kernel.specs.Roots as spec
use Rattle.xc_kernel.specs.Statements.{calls_copy}
use Rattle.xc_tree.specs.Plain as plain
use Rattle.xc_inline.specs.Contexts.{context_of}
use Rattle.xc_inline.specs.Roots.{rooted_of}
use Rattle.xc_inline.specs.Scopes.{scope_of}
use Rattle.xc_inline.proofs.Laws.Roots.{makes_roots, nothing_made}
use Rattle.xc_inline.proofs.Laws.Kinds.{rootless}
use Rattle.xc_inline.proofs.Laws.Results.{given_on_ok}
use Rattle.xc_inline.proofs.context.Context.statement_roots.Goals as goal

pub returns-in_ok-copied-in-Decl : goal.returns-in_ok-copied-in-Decl
returns-in_ok-copied-in-Decl c = given_on_ok c.add_copy.result c.add_copy.ensures (λ h.
    let copies = calls_copy c.args.calls in
    let here = context_of c.args.self.now in
    let scope = scope_of c.args.scope.now in
    let before = rooted_of c.args.rooted.now scope in
    let copied = c.in_ok-copied-in-Decl.ensures ∙ ap (λ ds. declarations_copy copies here (map tree.declaration_of ds) scope) c.as_slice.ensures in
    h scope (scope_of c.declarations.new.scope)
    ∙ ap (λ x. spec.and_roots before (spec.no_roots x)) copied
    ∙ ap (λ a. spec.roots_then before (spec.action_roots copies c.args.main a here)) (sym (ap tree.action_of (sym c.deref.ensures ∙ c.in-Decl.is) ∙ action-Decl c.in-Decl.ds)))

pub returns-in-Par : goal.returns-in-Par
returns-in-Par c = given_on_ok c.branch_roots.result c.branch_roots.ensures (λ h.
    let copies = calls_copy c.args.calls in
    let here = context_of c.args.self.now in
    let before = rooted_of c.args.rooted.now (scope_of c.args.scope.now) in
    h
    ∙ ap (λ bs. spec.roots_then before (spec.branch_roots copies c.args.main (plain.branches (map tree.branch_of bs)) 0 here)) c.as_slice-in-Par.ensures
    ∙ ap (λ a. spec.roots_then before (spec.action_roots copies c.args.main a here)) (sym (ap tree.action_of (sym c.deref.ensures ∙ c.in-Par.is) ∙ action-Par c.in-Par.bs)))

pub returns-in-Repl : goal.returns-in-Repl
returns-in-Repl c = given_on_ok c.numbered_roots.result c.numbered_roots.ensures (λ h.
    let copies = calls_copy c.args.calls in
    let here = context_of c.args.self.now in
    let scope = scope_of c.args.scope.now in
    let before = rooted_of c.args.rooted.now scope in
    h
    ∙ ap (λ b. spec.and_roots before (spec.numbered_roots copies c.args.main (tree.branch_of b) c.in-Repl.first.text here scope (c.in-Repl.to - c.in-Repl.from) 0 c.in-Repl.from)) c.deref-in-Repl.ensures
    ∙ ap (λ a. spec.roots_then before (spec.action_roots copies c.args.main a here)) (sym (ap tree.action_of (sym c.deref.ensures ∙ c.in-Repl.is) ∙ action-Repl c.in-Repl.first c.in-Repl.second c.in-Repl.third c.in-Repl.from c.in-Repl.to c.in-Repl.body)))

pub returns-in_default : goal.returns-in_default
returns-in_default c =
    nothing_made (calls_copy c.args.calls) c.args.main (context_of c.args.self.now) (rooted_of c.args.rooted.now (scope_of c.args.scope.now)) (tree.action_of c.args.s.now.kind.value)
    (ap (λ k. makes_roots (tree.action_of k)) (sym c.deref.ensures) ∙ rootless c.deref.result.now c.in_default.not-Decl c.in_default.not-Par c.in_default.not-Repl)
