use Rattle.xc_inline.specs.Scopes.{scope_of}
use Rattle.xc_inline.proofs.Laws.Results.{given_on}
use Rattle.xc_inline.proofs.context.Context.returned_behind.Goals as goal

pub returns : goal.returns
returns c = given_on c.joined.result c.joined.ensures (λ _ h. λ within call is. h within (scope_of c.args.scope.now) call _ is c.value_returned-returned.ensures)
