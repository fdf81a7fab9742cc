use Rattle.std.proofs.Common.{◌∙◌}
use Rattle.xr_driver.specs.Lines.{bound_line}
use Rattle.xr_text.proofs.Draws.{◌▸◌}
use Rattle.xr_driver.proofs.deliver.add_bound.Goals as goal

pub returns-clause-drew : goal.returns-clause-drew
unfolding bound_line
returns-clause-drew g c =
    let p = c.add.ensures.drew ▸ c.add-2.ensures.drew ▸ c.add-3.ensures.drew in
    rw (c.as_bytes.ensures.value, c.format.ensures.text) at p

pub returns-clause-same_sink : goal.returns-clause-same_sink
returns-clause-same_sink g c = c.add-3.ensures.same_sink ∙ c.add-2.ensures.same_sink ∙ c.add.ensures.same_sink
