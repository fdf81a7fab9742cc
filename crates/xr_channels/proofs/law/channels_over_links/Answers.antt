use Rattle.xr_channels.proofs.law.channels_over_links.Goals as goal
use Rattle.xr_channels.proofs.Laws.AnyDistance.{others_keep, channels_begin, deliveries_followed, transfers_followed, transactions_followed, streams_followed, traps_put}

pub returns-clause-at_the_start : goal.returns-clause-at_the_start
returns-clause-at_the_start c = channels_begin

pub returns-clause-by_deliveries : goal.returns-clause-by_deliveries
returns-clause-by_deliveries c = deliveries_followed

pub returns-clause-by_transfers : goal.returns-clause-by_transfers
returns-clause-by_transfers c = transfers_followed

pub returns-clause-by_transactions : goal.returns-clause-by_transactions
returns-clause-by_transactions c = transactions_followed

pub returns-clause-by_streams : goal.returns-clause-by_streams
returns-clause-by_streams c = streams_followed

pub returns-clause-by_traps : goal.returns-clause-by_traps
returns-clause-by_traps c = traps_put

pub returns-clause-by_others : goal.returns-clause-by_others
returns-clause-by_others c = others_keep
