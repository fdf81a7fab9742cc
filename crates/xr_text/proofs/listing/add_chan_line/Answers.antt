use Rattle.xr_text.proofs.Draws.{◌▸◌}
use Rattle.xr_text.proofs.listing.add_chan_line.Goals as goal
use Rattle.xs_instr.specs.Texts.{chan_line}

pub returns-clause-drew : goal.returns-clause-drew
unfolding chan_line
returns-clause-drew g c =
    c.add.ensures.drew ▸ c.add_number.ensures.drew ▸ c.add-2.ensures.drew ▸ c.add_number-2.ensures.drew
    ▸ c.add-3.ensures.drew ▸ c.add_number-3.ensures.drew ▸ c.add-4.ensures.drew ▸ c.add_number-4.ensures.drew
    ▸ c.add-5.ensures.drew
