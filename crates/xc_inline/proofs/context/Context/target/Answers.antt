use Rattle.std.proofs.Common.{Some, ap, sym, ◌∙◌}
use Rattle.xc_tree.specs.Trees as tree
use Rattle.xc_kernel.proofs.Forms.{place-Word}
use Rattle.xc_kernel.specs.Context as contexts
use Rattle.xc_kernel.specs.Numbering.{variable_number}
use Rattle.xc_kernel.specs.Plain as plain
use Rattle.xc_kernel.specs.Transfers as spec
use Rattle.xc_inline.specs.Contexts.{context_of}
use Rattle.xc_inline.specs.Scopes.{scope_of}
use Rattle.xc_inline.proofs.context.Context.target.Goals as goal

pub returns-in_ok-place-in-To-clause-place : goal.returns-in_ok-place-in-To-clause-place
returns-in_ok-place-in-To-clause-place c =
    ap Some c.in_ok-place-in-To.ensures ∙ ap (λ t. spec.target_of (context_of c.args.self.now) (scope_of c.args.scope.now) (tree.target_of t)) (sym c.in-To.is)

pub returns-in_ok-place-in-To-clause-names : goal.returns-in_ok-place-in-To-clause-names
returns-in_ok-place-in-To-clause-names c =
    c.nothing.ensures (scope_of c.args.scope.now) ∙ ap (λ t. spec.target_copy (context_of c.args.self.now) (scope_of c.args.scope.now) (tree.target_of t)) (sym c.in-To.is)

pub returns-in-Drop-clause-place : goal.returns-in-Drop-clause-place
returns-in-Drop-clause-place c =
    ap (λ t. spec.target_of (context_of c.args.self.now) (scope_of c.args.scope.now) (tree.target_of t)) (sym c.in-Drop.is)

pub returns-in-Drop-clause-names : goal.returns-in-Drop-clause-names
returns-in-Drop-clause-names c =
    c.nothing-in-Drop.ensures (scope_of c.args.scope.now) ∙ ap (λ t. spec.target_copy (context_of c.args.self.now) (scope_of c.args.scope.now) (tree.target_of t)) (sym c.in-Drop.is)

pub returns-in_ok-names-in-Fresh-clause-place : goal.returns-in_ok-names-in-Fresh-clause-place
returns-in_ok-names-in-Fresh-clause-place c =
    let here = context_of c.args.self.now in
    ap Some (place-Word c.variable-number.result ∙ ap plain.word (c.variable-number.ensures ∙ ap (variable_number here.numbering) (c.as_slice.ensures ∙ c.in_ok-path-in-Fresh.ensures)))
    ∙ ap (λ t. spec.target_of here (scope_of c.args.scope.now) (tree.target_of t)) (sym c.in-Fresh.is)

pub returns-in_ok-names-in-Fresh-clause-names : goal.returns-in_ok-names-in-Fresh-clause-names
returns-in_ok-names-in-Fresh-clause-names c =
    let here = context_of c.args.self.now in
    let scope = scope_of c.args.scope.now in
    c.in_ok-names-in-Fresh.ensures
    ∙ ap (λ n. contexts.declares_word here n c.in-Fresh.pos c.in-Fresh.unsigned scope) c.as_slice-in-Fresh.ensures
    ∙ ap (λ t. spec.target_copy here scope (tree.target_of t)) (sym c.in-Fresh.is)
