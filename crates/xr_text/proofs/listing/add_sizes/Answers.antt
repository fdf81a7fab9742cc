use Rattle.xr_text.proofs.Draws.{◌▸◌}
use Rattle.xr_text.proofs.listing.add_sizes.Goals as goal
use Rattle.xs_instr.specs.Texts.{size_lines}

pub returns-clause-drew : goal.returns-clause-drew
unfolding size_lines
returns-clause-drew g c =
    c.add_number_line.ensures.drew ▸ c.add_number_line-2.ensures.drew ▸ c.add_number_line-3.ensures.drew
    ▸ c.add_number_line-4.ensures.drew
