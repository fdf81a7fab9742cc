use Rattle.std.proofs.Common.{ap, ◌∙◌, is_ok}
use Rattle.xc_kernel.specs.Calls.{as_block}
use Rattle.xc_inline.specs.Contexts.{context_of}
use Rattle.xc_inline.proofs.Laws.Results.{given_on, if_given}
use Rattle.xc_inline.proofs.context.Context.block_of.Goals as goal

pub returns-clause-made : goal.returns-clause-made
returns-clause-made c = if_given c.as_block.result (ap is_ok c.in_ok-path.ensures.made)

pub returns-clause-block : goal.returns-clause-block
returns-clause-block c = given_on c.as_block.result c.as_block.ensures (λ _ h. λ behind whole is.
    let body = rw c.in_ok-path.ensures.made at is in
    h behind ∙ λ i. as_block (context_of c.args.self.now) ((c.as_slice.ensures ∙ c.in_ok-path.ensures.value) i) (body i))
