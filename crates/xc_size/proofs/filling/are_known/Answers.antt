use Rattle.std.proofs.Common.{subst, ◌∙◌}
use Rattle.xc_size.specs.Known.{AreKnown}
use Rattle.xc_size.proofs.filling.are_known.Goals as goal

pub returns : goal.returns
returns c = λ h. subst (AreKnown c.args.sizes.now.each) (c.as_slice.ensures ∙ c.in_ok-callees.ensures) (c.knows.ensures h)
