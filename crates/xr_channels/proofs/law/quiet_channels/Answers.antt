use Rattle.xr_channels.proofs.law.quiet_channels.Goals as goal
use Rattle.xr_channels.proofs.Laws.AnyDistance.{no_move_is_quiet, quiet_is_on_time, quiet_is_local}

pub returns-clause-on_time : goal.returns-clause-on_time
returns-clause-on_time c = quiet_is_on_time

pub returns-clause-within_cores : goal.returns-clause-within_cores
returns-clause-within_cores c = quiet_is_local

pub returns-clause-where_nothing_moves : goal.returns-clause-where_nothing_moves
returns-clause-where_nothing_moves c = no_move_is_quiet
