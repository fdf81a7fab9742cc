use Rattle.std.proofs.Common.{◌∙◌}
use Rattle.xc_kernel.specs.Context as contexts
use Rattle.xc_kernel.specs.Copy as copies
use Rattle.xc_kernel.specs.Scopes as scopes
use Rattle.xc_inline.specs.Contexts.{context_of}
use Rattle.xc_inline.specs.Scopes.{scope_of}
use Rattle.xc_inline.proofs.context.Context.array.Goals as goal

pub returns : goal.returns
returns c =
    let here = context_of c.args.self.now in
    let path = c.in_ok-path.ensures in
    let slice = c.as_slice.ensures ∙ path in
    let behind = scope_of c.declare-declared.new.self in
    let zeroed = (rw c.in_ok-copied.ensures.second at c.zeroed_array-zeroed.ensures) behind in
    let declared = rw c.in_ok-copied.ensures.first at c.declare-declared.ensures in
    let scope = declared ∙ (λ i. scopes.with_name (scope_of c.args.scope.now) c.args.name.now (scopes.an_array (path i) c.args.words c.args.unsigned)) in
    zeroed ∙ λ i. copies.with_variable (copies.one_statement (scope i) (contexts.set_zero here (slice i))) (contexts.array_variable here c.args.words (slice i) c.args.pos)
