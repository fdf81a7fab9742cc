use Rattle.xc_invariants.proofs.Always.{inside_is_own, tidy_along}
use Rattle.xc_invariants.proofs.Transacted.{checked_speak_alone, checked_tidy, checked_tidy_holds}
use Rattle.xc_invariants.proofs.promised.tidy_laws_hold.Goals as goal

pub returns : goal.returns
returns c = record { alone = checked_speak_alone; kernels = checked_tidy; of_runs = tidy_along; checked = checked_tidy_holds; inside = inside_is_own }
