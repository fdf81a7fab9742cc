use Rattle.xc_invariants.proofs.Always.{listed_holds}
use Rattle.xc_invariants.proofs.Checked.{kernels_are_listed, checked_listed}
use Rattle.xc_invariants.proofs.promised.listed_holds.Goals as goal

pub returns : goal.returns
returns c = record { of_runs = listed_holds; of_programs = kernels_are_listed; checked = checked_listed }
