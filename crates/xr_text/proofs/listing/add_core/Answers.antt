use Rattle.xr_text.proofs.Draws.{◌▸◌}
use Rattle.xr_text.proofs.listing.add_core.Goals as goal
use Rattle.xs_instr.specs.Texts.{core_lines}

pub returns-clause-drew : goal.returns-clause-drew
unfolding core_lines
returns-clause-drew g c =
    let p = c.add_sizes.ensures.drew ▸ c.add_ports.ensures.drew ▸ c.add_roots.ensures.drew ▸ c.add_code.ensures.drew in
    rw (c.as_slice.ensures, c.as_slice-2.ensures) at p
