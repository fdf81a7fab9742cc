use Rattle.xr_channels.proofs.law.credits_over_links.Goals as goal
use Rattle.xr_channels.proofs.Laws.AnyDistance.{rows_keep}
use Rattle.xr_channels.proofs.Laws.CreditsOverLinks.{credits_kept}

pub returns-clause-by_deliveries : goal.returns-clause-by_deliveries
returns-clause-by_deliveries c = credits_kept

pub returns-clause-by_rows : goal.returns-clause-by_rows
returns-clause-by_rows c = rows_keep
