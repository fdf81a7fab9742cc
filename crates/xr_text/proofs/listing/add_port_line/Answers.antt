use Rattle.xr_text.proofs.Draws.{◌▸◌}
use Rattle.xr_text.proofs.listing.add_port_line.Goals as goal
use Rattle.xs_instr.specs.Texts.{port_line}

pub returns-clause-drew : goal.returns-clause-drew
unfolding port_line
returns-clause-drew g c =
    c.add.ensures.drew ▸ c.add_port.ensures.drew ▸ c.add-2.ensures.drew ▸ c.add_dir.ensures.drew
    ▸ c.add-3.ensures.drew
