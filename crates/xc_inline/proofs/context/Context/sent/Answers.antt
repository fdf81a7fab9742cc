use Rattle.std.proofs.Common.{ap, ◌∙◌}
use Rattle.xc_kernel.specs.Expressions as expressions
use Rattle.xc_kernel.specs.Scopes as scopes
use Rattle.xc_inline.specs.Contexts.{context_of}
use Rattle.xc_inline.specs.Scopes.{scope_of}
use Rattle.xc_inline.proofs.context.Context.sent.Goals as goal

pub returns : goal.returns
returns c =
    let here = context_of c.args.self.now in
    let scope = scope_of c.args.scope.now in
    let res = c.resource-res.ensures ∙ ap (expressions.resource_of here.numbering) (c.entity.ensures ∙ ap (scopes.entity_of scope) c.as_slice.ensures) in
    let stamped = rw c.in_ok-time.ensures.second at c.zip_ok-stamped.ensures in
    let time = rw c.in_ok-time.ensures.first at c.time-time.ensures in
    let value = rw stamped.first at c.word-value.ensures.value in
    let stamp = rw stamped.second at c.stamp-stamp.ensures in
    λ i. record { resource = res i; time = time i; value = value i; stamp = stamp i; pos = c.args.o.now.pos }
