use Rattle.xr_events.proofs.Takings.{taken_is_fixed}
use Rattle.xr_events.proofs.law.taken_is_fixed.Goals as goal

pub returns : goal.returns
returns c = taken_is_fixed
