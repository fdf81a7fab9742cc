use Rattle.xs_fabric.proofs.Idles.{ready_is}
use Rattle.xs_fabric.proofs.law.ready_is_as_said.Goals as goal

pub returns : goal.returns
returns c = ready_is
