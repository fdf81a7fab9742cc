use Rattle.xc_invariants.proofs.Always.{marks_stand_once}
use Rattle.xc_invariants.proofs.Checked.{fresh_holds}
use Rattle.xc_invariants.proofs.promised.marks_stand_once.Goals as goal

pub returns : goal.returns
returns c = record { of_runs = fresh_holds; once = marks_stand_once }
