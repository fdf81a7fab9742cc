use Rattle.xr_text.proofs.Draws.{◌▸◌}
use Rattle.xr_text.proofs.instruction.add_next.Goals as goal

pub returns-clause-drew : goal.returns-clause-drew
returns-clause-drew g c = c.add.ensures.drew ▸ c.add_operand.ensures.drew
