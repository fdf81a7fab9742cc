use Rattle.xr_text.proofs.Draws.{◌▸◌}
use Rattle.xr_text.proofs.listing.add_image.Goals as goal
use Rattle.xs_instr.specs.Texts.{image_text}

pub returns-clause-drew : goal.returns-clause-drew
unfolding image_text
returns-clause-drew g c =
    let p = c.add_cores.ensures.drew ▸ c.add_chans.ensures.drew in
    rw (c.as_slice.ensures, c.as_slice-2.ensures) at p
