use Rattle.xc_invariants.proofs.Always.{laws_begin}
use Rattle.xc_invariants.proofs.promised.laws_kept.Goals as goal

pub returns-clause-at_the_start : goal.returns-clause-at_the_start
returns-clause-at_the_start c = laws_begin
