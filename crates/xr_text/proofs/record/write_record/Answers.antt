use Rattle.xr_text.proofs.record.write_record.Goals as goal
use Rattle.xw_io.proofs.Sinks.{drawn}

pub returns-clause-wrote : goal.returns-clause-wrote
returns-clause-wrote g c = drawn g.O.Sink.bytes g.O.Sink.faults _ _ _ _ c.requires.usable c.add_record.ensures.drew c.outcome.ensures
