use Rattle.std.proofs.Common.{◌∙◌, ◌++◌, ◌∷◌, []}
use Rattle.xc_kernel.specs.Copy as copies
use Rattle.xc_kernel.specs.Scopes as scopes
use Rattle.xc_inline.specs.Scopes.{scope_of}
use Rattle.xc_inline.proofs.Laws.Results.{given_on}
use Rattle.xc_inline.proofs.context.Context.timer.Goals as goal

pub returns : goal.returns
returns c = given_on c.and_timer.result c.and_timer.ensures (λ _ h.
    let path = c.in_ok-path.ensures in
    let own = (rw c.in_ok-own.ensures.second at c.same_path-own.ensures) ∙ c.as_slice.ensures ∙ path in
    let behind = scope_of c.declare-declared.new.self in
    let scope = (rw c.in_ok-own.ensures.first at c.declare-declared.ensures) ∙ (λ i. scopes.with_name (scope_of c.args.scope.now) c.args.name.now (scopes.a_timer (path i))) in
    h behind
    ∙ (λ i. record (c.nothing.ensures behind i) { timers = (c.nothing.ensures behind i).timers ++ record { core = c.args.self.now.core; path = own i; pos = c.args.pos } ∷ [] })
    ∙ λ i. record (copies.no_copy (scope i)) { timers = record { core = c.args.self.now.core; path = own 1; pos = c.args.pos } ∷ [] })
