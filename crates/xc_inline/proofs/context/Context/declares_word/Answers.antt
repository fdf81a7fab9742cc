use Rattle.std.proofs.Common.{◌∙◌, true}
use Rattle.xc_kernel.specs.Context as contexts
use Rattle.xc_kernel.specs.Copy as copies
use Rattle.xc_kernel.specs.Scopes as scopes
use Rattle.xc_kernel.specs.Paths.{path_at}
use Rattle.xc_inline.specs.Contexts.{context_of}
use Rattle.xc_inline.specs.Scopes.{scope_of}
use Rattle.xc_inline.proofs.Laws.Results.{given_on}
use Rattle.xc_inline.proofs.context.Context.declares_word.Goals as goal

pub returns : goal.returns
returns c = given_on c.and_variable.result c.and_variable.ensures (λ _ h.
    let here = context_of c.args.self.now in
    let path = c.in_ok-path.ensures in
    let behind = scope_of c.declare-declared.new.self in
    let variable = rw c.in_ok-variable.ensures.second at c.word_variable-variable.ensures in
    let declared = rw c.in_ok-variable.ensures.first at c.declare-declared.ensures in
    h behind
    ∙ (λ i. copies.with_variable (c.nothing.ensures behind i) ((variable ∙ λ j. contexts.word_variable here true ((c.as_slice.ensures ∙ path) j) c.args.pos) i))
    ∙ λ i. copies.with_variable (copies.no_copy ((declared ∙ λ j. scopes.with_name (scope_of c.args.scope.now) c.args.name.now (scopes.a_word (path j) c.args.unsigned)) i)) (contexts.word_variable here true (path_at here.path c.args.pos) c.args.pos))
