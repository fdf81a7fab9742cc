use Rattle.xc_inline.proofs.Laws.Flow.{stored_made}
use Rattle.xc_inline.proofs.Laws.Results.{given_on}
use Rattle.xc_inline.proofs.context.Context.stored.Goals as goal

pub returns : goal.returns
returns c = given_on c.and_variable.result c.and_variable.ensures (λ _ h. λ behind.
    let stored = rw c.in_ok-stored.ensures.first at c.one_statement-stored.ensures in
    let variable = rw c.in_ok-stored.ensures.second at c.word_variable-variable.ensures in
    stored_made c.set_word.ensures (stored behind) variable (h behind))
