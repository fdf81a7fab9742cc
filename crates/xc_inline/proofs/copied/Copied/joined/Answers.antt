use Rattle.std.proofs.Common.{◌∙◌}
use Rattle.xc_kernel.specs.Copy.{joined}
use Rattle.xc_inline.proofs.Laws.Results.{given_on}
use Rattle.xc_inline.proofs.copied.Copied.joined.Goals as goal

pub returns : goal.returns
returns c = given_on c.followed_by.result c.followed_by.ensures (λ _ h. λ before after one other is behind.
    let first = rw c.in_ok-first.ensures.first at is in
    let second = rw c.in_ok-first.ensures.second at behind in
    h before after ∙ λ i. joined (first i) (second i))
