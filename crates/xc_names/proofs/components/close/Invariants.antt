use Rattle.std.proofs.Common.{length}
use Rattle.xc_names.proofs.components.close.Given as goal

abbrev pub decreases-close : goal.decreases-close
decreases-close l = length l.walk.open.items
