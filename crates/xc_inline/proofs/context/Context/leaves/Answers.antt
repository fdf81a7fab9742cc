use Rattle.std.proofs.Common.{ap, ◌∙◌}
use Rattle.xc_kernel.specs.Copy as copies
use Rattle.xc_inline.specs.Scopes.{scope_of}
use Rattle.xc_inline.proofs.Laws.Results.{given_on}
use Rattle.xc_inline.proofs.context.Context.leaves.Goals as goal

pub returns : goal.returns
returns c = given_on c.one_statement.result c.one_statement.ensures (λ _ h. h (scope_of c.args.scope.now) ∙ ap (copies.one_statement (scope_of c.args.scope.now)) c.leave.ensures)
