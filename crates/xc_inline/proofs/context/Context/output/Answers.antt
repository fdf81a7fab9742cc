use Rattle.std.proofs.Common.{ap, refl, ◌∙◌}
use Rattle.xc_tree.specs.Trees as tree
use Rattle.xc_kernel.proofs.Forms.{statement-Out}
use Rattle.xc_kernel.specs.Copy as copies
use Rattle.xc_kernel.specs.Plain as plain
use Rattle.xc_kernel.specs.Transfers as spec
use Rattle.xc_inline.specs.Contexts.{context_of}
use Rattle.xc_inline.specs.Scopes.{scope_of}
use Rattle.xc_inline.proofs.Laws.Transfers.{names_joined}
use Rattle.xc_inline.proofs.Laws.Actions.{copied_as}
use Rattle.xc_inline.proofs.Laws.Results.{given_on}
use Rattle.xc_inline.proofs.context.Context.output.Goals as goal

pub returns : goal.returns
returns c = given_on c.joined.result c.joined.ensures (λ _ h.
    let here = context_of c.args.self.now in
    let scope = scope_of c.args.scope.now in
    let o = tree.output_of c.args.o.now in
    let output = plain.output (spec.output_of here scope o) in
    let named = copied_as scope c.channel_named-named.result (ap (λ t. spec.naming scope t (copies.no_copy scope)) c.as_slice.ensures) (given_on c.channel_named-named.result c.channel_named-named.ensures (λ _ k. k scope)) in
    let one = copied_as scope c.one_statement-one.result (ap (copies.one_statement scope) (statement-Out c.in_ok-output.output ∙ ap plain.output c.in_ok-output.ensures)) (given_on c.one_statement-one.result c.one_statement-one.ensures (λ _ k. k scope)) in
    names_joined scope o.name.text {before = scope} (copies.one_statement scope output) refl refl refl (h scope scope _ _ named one))
