use Rattle.std.proofs.Common.{◌∙◌, ◌++◌, ◌∷◌, []}
use Rattle.xc_inline.proofs.Laws.Results.{given_on}
use Rattle.xc_inline.proofs.context.Context.instance.Goals as goal

pub returns : goal.returns
returns c = given_on c.and_instance.result c.and_instance.ensures (λ _ h. λ behind.
    h behind
    ∙ λ i. record (c.nothing.ensures behind i) { instances = (c.nothing.ensures behind i).instances ++ record { core = c.args.self.now.core; params = c.len-params.ensures i } ∷ [] })
