use Rattle.xr_channels.proofs.law.channels_begin.Goals as goal
use Rattle.xr_channels.proofs.Tokens.Locals.{local_begins}

pub returns : goal.returns
returns c = local_begins
