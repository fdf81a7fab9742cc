use Rattle.xr_text.proofs.Draws.{◌▸◌}
use Rattle.xr_text.proofs.record.add_record.Goals as goal

pub returns-clause-drew : goal.returns-clause-drew
returns-clause-drew g c = c.add_record_text.ensures.drew ▸ c.add.ensures.drew
