use Rattle.xc_invariants.proofs.Always.{laws_hold}
use Rattle.xc_invariants.proofs.promised.laws_hold.Goals as goal

pub returns : goal.returns
returns c = laws_hold
