use Rattle.std.proofs.Common.{ap₂, ◌∙◌}
use Rattle.xc_disjoint.specs.UseTables.{found, or_one, with_ones}
use Rattle.xc_disjoint.proofs.use_tables.share_of.Goals as goal

pub returns : goal.returns
unfolding found with_ones
returns c = c.share_by.ensures ∙ ap₂ or_one c.get.ensures.value c.get-2.ensures.value
