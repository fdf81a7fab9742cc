use Rattle.std.proofs.Common.{ap, ◌∙◌}
use Rattle.xc_kernel.proofs.Forms.{statement-Set}
use Rattle.xc_kernel.specs.Copy as copies
use Rattle.xc_kernel.specs.Plain as plain
use Rattle.xc_inline.specs.Scopes.{scope_of}
use Rattle.xc_inline.proofs.Laws.Results.{given_on}
use Rattle.xc_inline.proofs.context.Context.update.Goals as goal

pub returns : goal.returns
returns c = given_on c.one_statement.result c.one_statement.ensures (λ _ h.
    let scope = scope_of c.args.scope.now in
    let place = rw c.in_ok-place.ensures.first at c.place-place.ensures in
    let stored = rw c.in_ok-place.ensures.second at c.updated-stored.ensures in
    h scope
    ∙ ap (copies.one_statement scope) (statement-Set _ _ ∙ λ i. plain.set (place i) (stored i)))
