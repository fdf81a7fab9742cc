use Rattle.xc_invariants.proofs.Frames.{footprints_shrink}
use Rattle.xc_invariants.proofs.promised.footprints_shrink.Goals as goal

pub returns : goal.returns
returns c = footprints_shrink
