use Rattle.std.proofs.Common.{ap, refl, ◌∙◌, ◌∷◌}
use Rattle.std.specs.Option.{option_map, option_to_list}
use Rattle.xc_kernel.specs.Context as contexts
use Rattle.xc_kernel.specs.Copy as copies
use Rattle.xc_kernel.specs.Kernels as kernel
use Rattle.xc_inline.specs.Contexts.{context_of}
use Rattle.xc_inline.specs.Copied.{copy_of}
use Rattle.xc_inline.proofs.Laws.Flow.{loop_made}
use Rattle.xc_inline.proofs.Laws.Results.{given_on}
use Rattle.xc_inline.proofs.context.Context.loop_at.Goals as goal

pub returns : goal.returns
returns c = given_on c.and_block.result c.and_block.ensures (λ _ h. λ between behind.
    let here = context_of c.args.self.now in
    let last = option_to_list (option_map kernel.statement_of c.args.last) in
    let round = rw c.in_ok-round.ensures.first at c.round-round.ensures in
    let made = rw c.in_ok-round.ensures.second at c.followed_by-made.ensures in
    let code = c.take_code-done.ensures.code behind in
    let path = c.as_slice.ensures in
    let whole = c.as_slice-2.ensures in
    let looped = rw c.in_ok-paths.ensures.made at c.and_statement-looped.ensures in
    let inner = rw c.in_ok-whole.ensures.made at c.and_block-inner.ensures in
    let same = c.in_ok-paths.ensures.value in
    loop_made here (copy_of c.args.body behind) (c.take_code-followed.ensures.code between)
    (λ i. contexts.block_at here (path i) (code i) ∷ last)
    c.requires (c.take_code-followed.ensures.left between) (c.take_code-done.ensures.left behind) (made between behind)
    refl
    (c.block_at.ensures ∙ λ i. contexts.block_at here (whole i) (round i))
    (looped behind)
    (inner behind ∙ ap (copies.with_block _) (ap (λ p. p.turn) same))
    (h behind ∙ ap (copies.with_block _) (c.in_ok-whole.ensures.value ∙ ap (λ p. p.whole) same)))
