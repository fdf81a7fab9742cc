use Rattle.xr_events.proofs.Lasting.{cases_stay, latches_stay}
use Rattle.xr_events.proofs.law.armed_stays.Goals as goal

pub returns : goal.returns
returns c = record { armed = cases_stay; latched = latches_stay }
