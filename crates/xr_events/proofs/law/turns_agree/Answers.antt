use Rattle.xr_events.proofs.Turns.{turn_agrees}
use Rattle.xr_events.proofs.law.turns_agree.Goals as goal

pub returns : goal.returns
returns c = turn_agrees
