use Rattle.xr_text.proofs.Draws.{◌▸◌}
use Rattle.xr_text.proofs.listing.add_number_line.Goals as goal
use Rattle.xs_instr.specs.Texts.{number_line}

pub returns-clause-drew : goal.returns-clause-drew
unfolding number_line
returns-clause-drew g c = c.add.ensures.drew ▸ c.add-2.ensures.drew ▸ c.add_number.ensures.drew ▸ c.add-3.ensures.drew
