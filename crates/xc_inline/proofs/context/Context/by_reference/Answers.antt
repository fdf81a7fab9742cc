use Rattle.std.proofs.Common.{ap, sym, ◌∙◌}
use Rattle.xc_tree.specs.Trees as tree
use Rattle.xc_kernel.specs.Parameters as spec
use Rattle.xc_kernel.specs.Scopes.{entity_of}
use Rattle.xc_inline.specs.Contexts.{context_of}
use Rattle.xc_inline.specs.Scopes.{scope_of}
use Rattle.xc_inline.proofs.Laws.Unknown.{handed_as_well, refers_element, refers_name, unreferred}
use Rattle.xc_inline.proofs.context.Context.by_reference.Goals as goal

pub returns-in-Name : goal.returns-in-Name
returns-in-Name c =
    let scope = scope_of c.args.scope.now in
    handed_as_well c.stands_for.result
    (refers_name (context_of c.args.self.now) c.args.own.now c.args.pos c.args.argument.now c.in-Name.name c.in-Name.is scope ∙ ap spec.stands_for (sym (c.entity.ensures ∙ ap (entity_of scope) c.as_slice.ensures)))
    c.stands_for.ensures

pub returns-in-None : goal.returns-in-None
returns-in-None c =
    let here = context_of c.args.self.now in
    let scope = scope_of c.args.scope.now in
    let e = c.args.argument.now in
    let found = c.in-None.ensures ∙ ap (entity_of scope) c.as_slice-in-Index.ensures in
    handed_as_well c.stands_for-in-None.result
    (refers_element here c.args.own.now c.args.pos e c.in-Index.name c.in-Index.index c.in-Index.is scope ∙ ap (spec.by_element here scope c.args.own.now c.args.pos (tree.expression_of c.in-Index.index.value) e.pos) (sym found))
    c.stands_for-in-None.ensures

pub returns-in-Some : goal.returns-in-Some
returns-in-Some c =
    let here = context_of c.args.self.now in
    let scope = scope_of c.args.scope.now in
    let e = c.args.argument.now in
    let found = c.in-Some.ensures ∙ ap (entity_of scope) c.as_slice-in-Index.ensures in
    handed_as_well c.by_element.result
    (refers_element here c.args.own.now c.args.pos e c.in-Index.name c.in-Index.index c.in-Index.is scope
    ∙ λ i. spec.by_element here scope c.args.own.now c.args.pos (tree.expression_of ((sym c.deref.ensures) i)) e.pos ((sym found) i))
    c.by_element.ensures

pub returns-in_default : goal.returns-in_default
returns-in_default c =
    handed_as_well c.stands_for-in_default.result (unreferred (context_of c.args.self.now) c.args.own.now c.args.pos c.args.argument.now c.in_default.not-Name c.in_default.not-Index (scope_of c.args.scope.now)) c.stands_for-in_default.ensures
