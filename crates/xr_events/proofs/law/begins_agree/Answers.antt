use Rattle.xr_events.proofs.Turns.{begins_agree, select_errs}
use Rattle.xr_events.proofs.law.begins_agree.Goals as goal

pub returns : goal.returns
returns c = record { begins = begins_agree; errs = select_errs }
