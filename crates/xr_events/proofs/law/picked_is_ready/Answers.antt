use Rattle.xr_events.proofs.Picks.{pick_none, pick_some}
use Rattle.xr_events.proofs.law.picked_is_ready.Goals as goal

pub returns : goal.returns
returns c = record { some = pick_some; none = pick_none }
