use Rattle.xr_match.proofs.law.runs_are_allowed.Goals as goal
use Rattle.xr_match.proofs.RunsBeside.{kernel_allowed, text_allowed}

pub returns : goal.returns
returns c = record { text = text_allowed; kernel = kernel_allowed }
