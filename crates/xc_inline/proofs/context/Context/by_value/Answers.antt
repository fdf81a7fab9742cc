use Rattle.std.proofs.Common.{ap, ◌∙◌, false}
use Rattle.xc_kernel.specs.Context as contexts
use Rattle.xc_kernel.specs.Copy as copies
use Rattle.xc_kernel.specs.Scopes as scopes
use Rattle.xc_inline.specs.Contexts.{context_of}
use Rattle.xc_inline.proofs.context.Context.by_value.Goals as goal

pub returns : goal.returns
returns c =
    let here = context_of c.args.self.now in
    let own = rw c.in_ok-path.ensures.first at c.path_at-path.ensures in
    let value = rw c.in_ok-path.ensures.second at c.word-value.ensures.value in
    let stored = rw c.in_ok-path-2.ensures.made at c.stored-copied.ensures in
    let path = c.as_slice.ensures ∙ own in
    record {
      copy = λ behind. stored behind ∙ λ i. copies.with_variable (copies.one_statement behind (contexts.set_word here (path i) (value i))) (contexts.word_variable here false (path i) c.args.pos);
      entity = ap (λ p. scopes.a_word p c.args.unsigned) (c.in_ok-path-2.ensures.value ∙ own);
    }
