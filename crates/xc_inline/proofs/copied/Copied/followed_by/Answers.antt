use Rattle.std.proofs.Common.{ap, ◌∙◌}
use Rattle.xc_inline.specs.Copied.{copy_of}
use Rattle.xc_inline.proofs.Laws.Results.{given_on_both}
use Rattle.xc_inline.proofs.copied.Copied.followed_by.Goals as goal

pub returns : goal.returns
returns c = given_on_both c.then_ok.result c.then_ok.ensures.value c.then_ok.ensures.done (λ _ same done. λ before after.
    let joined = rw done at c.join-joined.ensures in
    ap (λ x. copy_of x after) same ∙ joined before after)
