use Rattle.std.proofs.Common.{◌∙◌}
use Rattle.xc_kernel.specs.Copy.{joined}
use Rattle.xc_inline.specs.Copied.{copy_of}
use Rattle.xc_inline.proofs.Laws.Results.{given_on}
use Rattle.xc_inline.proofs.copied.Copied.with_next.Goals as goal

pub returns : goal.returns
returns c = given_on c.followed_by.result c.followed_by.ensures (λ _ h. λ before after other is.
    let next = rw c.in_ok-first.ensures.made at is in
    h before after ∙ λ i. joined (copy_of (c.in_ok-first.ensures.value i) before) (next i))
