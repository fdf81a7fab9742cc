use Rattle.std.proofs.Common.{ap, ◌∙◌}
use Rattle.xc_kernel.specs.Context.{set_word}
use Rattle.xc_kernel.specs.Copy.{one_statement}
use Rattle.xc_inline.specs.Contexts.{context_of}
use Rattle.xc_inline.specs.Scopes.{scope_of}
use Rattle.xc_inline.proofs.Laws.Results.{given_on}
use Rattle.xc_inline.proofs.context.Context.value_stored.Goals as goal

pub returns : goal.returns
returns c = given_on c.one_statement.result c.one_statement.ensures (λ _ h.
    let scope = scope_of c.args.scope.now in
    h scope ∙ ap (one_statement scope) (c.set_word.ensures ∙ ap (set_word (context_of c.args.self.now) c.args.path.now) c.in_ok-value.ensures))
