use Rattle.xc_invariants.proofs.Always.{suffices, branches_fit}
use Rattle.xc_invariants.proofs.promised.threads_suffice.Goals as goal

pub returns : goal.returns
returns c = record { below = suffices; fit = branches_fit }
