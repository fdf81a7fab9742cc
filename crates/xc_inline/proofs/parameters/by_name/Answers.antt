use Rattle.std.proofs.Common.{ap, sym, ◌∙◌}
use Rattle.xc_kernel.specs.Parameters.{stands_for}
use Rattle.xc_kernel.specs.Scopes.{entity_of}
use Rattle.xc_inline.specs.Scopes.{scope_of}
use Rattle.xc_inline.proofs.Laws.Unknown.{handed_as_well, meant_by_name, unnamed}
use Rattle.xc_inline.proofs.parameters.by_name.Goals as goal

pub returns-in_default : goal.returns-in_default
returns-in_default c = handed_as_well c.stands_for-in_default.result (unnamed c.args.argument.now c.in_default.not-Name (scope_of c.args.scope.now)) c.stands_for-in_default.ensures

pub returns-in-Name : goal.returns-in-Name
returns-in-Name c =
    let scope = scope_of c.args.scope.now in
    let found = c.entity.ensures ∙ ap (entity_of scope) c.as_slice.ensures in
    handed_as_well c.stands_for.result
    (meant_by_name c.args.argument.now c.in-Name.name c.in-Name.is scope ∙ sym (ap stands_for found)) c.stands_for.ensures
