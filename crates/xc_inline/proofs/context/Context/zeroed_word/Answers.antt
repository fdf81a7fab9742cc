use Rattle.std.proofs.Common.{◌∙◌}
use Rattle.xc_inline.proofs.Laws.Flow.{stored_made}
use Rattle.xc_inline.proofs.Laws.Results.{given_on}
use Rattle.xc_inline.proofs.context.Context.zeroed_word.Goals as goal

pub returns : goal.returns
returns c = given_on c.and_variable.result c.and_variable.ensures (λ _ h. λ behind.
    let zeroed = rw c.in_ok-variable-2.ensures.made at c.one_statement-zeroed.ensures in
    stored_made c.set_zero.ensures (zeroed behind) (c.in_ok-variable-2.ensures.value ∙ c.in_ok-variable.ensures) (h behind))
