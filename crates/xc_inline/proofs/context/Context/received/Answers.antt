use Rattle.std.proofs.Common.{ap, ◌∙◌}
use Rattle.std.specs.Option.{option_map}
use Rattle.xc_tree.specs.Trees as tree
use Rattle.xc_kernel.specs.Copy as copies
use Rattle.xc_kernel.specs.Expressions as expressions
use Rattle.xc_kernel.specs.Kernels as kernel
use Rattle.xc_kernel.specs.Scopes as scopes
use Rattle.xc_kernel.specs.Transfers as spec
use Rattle.xc_inline.specs.Contexts.{context_of}
use Rattle.xc_inline.specs.Scopes.{scope_of}
use Rattle.xc_inline.proofs.Laws.Transfers.{names_joined, target_named}
use Rattle.xc_inline.proofs.context.Context.received.Goals as goal

pub returns-clause-head : goal.returns-clause-head
returns-clause-head c =
    let here = context_of c.args.self.now in
    let scope = scope_of c.args.scope.now in
    let i = tree.input_of c.args.i.now in
    let res = c.resource-res.ensures ∙ ap (expressions.resource_of here.numbering) (c.entity.ensures ∙ ap (scopes.entity_of scope) c.as_slice.ensures) in
    let parts = rw c.in_ok-named.ensures.second at c.zip_ok-parts.ensures in
    let waits = rw parts.first at c.zip_ok-waits.ensures in
    let ends = rw parts.second at c.zip_ok-ends.ensures in
    let time = rw waits.first at c.time-time.ensures in
    let condition = rw waits.second at c.condition-cond.ensures in
    let place = rw ends.first at c.target-target.ensures.place in
    let names = rw ends.first at c.target-target.ensures.names in
    let behind = ap (λ x. x.scope) names in
    let stamp = (rw ends.second at c.stamp-stamp.ensures) ∙ (λ j. option_map (spec.stamp_of here (behind j)) i.stamp) in
    (ap kernel.input_of c.in_ok-head.ensures.value)
    ∙ λ j. record { resource = res j; time = time j; condition = condition j; target = place j; stamp = stamp j; pos = c.args.i.now.pos }

pub returns-clause-names : goal.returns-clause-names
returns-clause-names c =
    let here = context_of c.args.self.now in
    let scope = scope_of c.args.scope.now in
    let i = tree.input_of c.args.i.now in
    let behind = scope_of c.target-target.new.scope in
    let parts = rw c.in_ok-named.ensures.second at c.zip_ok-parts.ensures in
    let ends = rw parts.second at c.zip_ok-ends.ensures in
    let named = rw c.in_ok-named.ensures.first at c.channel_named-named.ensures in
    let target = rw ends.first at c.target-target.ensures.names in
    let names = rw c.in_ok-head.ensures.made at c.followed_by-names.ensures in
    names_joined scope i.name.text (spec.target_copy here scope i.target)
    (named behind ∙ ap (λ t. spec.naming scope t (copies.no_copy behind)) c.as_slice-2.ensures)
    target (target_named here scope i.target) (names behind behind)
