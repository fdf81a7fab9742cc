use Rattle.xr_events.proofs.Takings.{event_leaves}
use Rattle.xr_events.proofs.law.taking_leaves_others.Goals as goal

pub returns : goal.returns
returns c = event_leaves
