use Rattle.xr_stim.proofs.Reading.{some}
use Rattle.xr_stim.proofs.laws.one_stimulus_or_one_broken_line.Goals as goal

pub returns-clause-some : goal.returns-clause-some
returns-clause-some c = some
