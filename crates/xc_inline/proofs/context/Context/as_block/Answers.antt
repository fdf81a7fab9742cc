use Rattle.std.proofs.Common.{refl, ap, ◌∙◌}
use Rattle.xc_kernel.specs.Copy.{with_block}
use Rattle.xc_inline.specs.Contexts.{context_of}
use Rattle.xc_inline.proofs.Laws.Flow.{block_made}
use Rattle.xc_inline.proofs.Laws.Results.{given_on}
use Rattle.xc_inline.proofs.context.Context.as_block.Goals as goal

pub returns : goal.returns
returns c = given_on c.and_block.result c.and_block.ensures (λ _ h. λ behind.
    let whole = rw c.in_ok-whole.ensures.first at c.and_statement-whole.ensures in
    let own = rw c.in_ok-whole.ensures.second at c.same_path-own.ensures in
    block_made (context_of c.args.self.now) (c.take_code-code.ensures.code behind) (c.take_code-code.ensures.left behind) refl c.block_at.ensures
    (whole behind) (h behind ∙ ap (with_block _) own))
