use Rattle.xc_inline.specs.Scopes.{scope_of}
use Rattle.xc_inline.proofs.Laws.Results.{given_on}
use Rattle.xc_inline.proofs.context.Context.value_returned.Goals as goal

pub returns : goal.returns
returns c =
    let scope = scope_of c.args.scope.now in
    given_on c.joined.result c.joined.ensures (λ _ h. h scope scope _ _ c.value_stored-stored.ensures c.leaves-left.ensures)
