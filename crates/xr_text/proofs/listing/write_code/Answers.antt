use Rattle.xr_text.proofs.listing.write_code.Goals as goal
use Rattle.xw_io.proofs.Sinks.{drawn}

pub returns-clause-wrote : goal.returns-clause-wrote
returns-clause-wrote g c = drawn g.O.Sink.bytes g.O.Sink.faults _ _ _ _ c.requires.usable c.add_image.ensures.drew c.outcome.ensures
