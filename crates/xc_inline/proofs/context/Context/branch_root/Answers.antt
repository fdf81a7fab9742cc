use Rattle.std.proofs.Common.{ap, ◌∙◌}
use Rattle.xc_kernel.specs.Roots as spec
use Rattle.xc_kernel.specs.Statements.{calls_copy}
use Rattle.xc_inline.specs.Contexts.{context_of}
use Rattle.xc_inline.specs.Roots.{rooted_of}
use Rattle.xc_inline.specs.Scopes.{scope_of}
use Rattle.xc_inline.proofs.Laws.Roots.{branch_done}
use Rattle.xc_inline.proofs.Laws.Results.{given_on_ok}
use Rattle.xc_inline.proofs.context.Context.branch_root.Goals as goal

pub returns : goal.returns
returns c = given_on_ok c.add_root.result c.add_root.ensures (λ h.
    let scope = scope_of c.args.scope.now in
    h scope (scope_of c.statement.new.scope)
    ∙ ap (spec.and_roots (rooted_of c.args.rooted.now scope))
    (branch_done (calls_copy c.args.calls) c.args.main (context_of c.args.self.now) scope c.args.b.now c.in_ok-core.ensures c.pos_of_place-place.ensures c.on_core.ensures.context c.in_ok-copied.ensures))
