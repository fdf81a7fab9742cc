use Rattle.xr_driver.proofs.Given.{line_some}
use Rattle.xr_driver.proofs.deliver.is_due.Goals as goal

pub returns-in_default : goal.returns-in_default
returns-in_default c = record { due = λ _. line_some _ c.in_default.not-Nothing; nothing = λ e. absurd (cc) }
