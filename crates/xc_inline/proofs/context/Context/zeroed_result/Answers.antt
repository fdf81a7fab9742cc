use Rattle.std.proofs.Common.{ap, sym, ◌∙◌}
use Rattle.xc_kernel.specs.Calls as calls
use Rattle.xc_inline.specs.Contexts.{context_of}
use Rattle.xc_inline.proofs.Laws.Results.{given_on}
use Rattle.xc_inline.proofs.context.Context.zeroed_result.Goals as goal

pub returns-in-None : goal.returns-in-None
returns-in-None c = λ behind.
    c.nothing.ensures behind
    ∙ ap (calls.result_copy (context_of c.args.self.now) c.args.path.now c.args.function.now.name.pos behind) (sym c.in-None.is)

pub returns-in-Some : goal.returns-in-Some
returns-in-Some c = given_on c.zeroed_word.result c.zeroed_word.ensures (λ _ h. λ behind.
    h behind
    ∙ ap (calls.result_copy (context_of c.args.self.now) c.args.path.now c.args.function.now.name.pos behind) (sym c.in-Some.is))
