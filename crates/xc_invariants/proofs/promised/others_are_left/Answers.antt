use Rattle.xc_invariants.proofs.Frames.{others_are_left}
use Rattle.xc_invariants.proofs.promised.others_are_left.Goals as goal

pub returns : goal.returns
returns c = others_are_left
