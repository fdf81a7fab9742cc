use Rattle.xc_invariants.proofs.Always.{budgets_suffice}
use Rattle.xc_invariants.proofs.promised.reserves_suffice.Goals as goal

pub returns-clause-suffice : goal.returns-clause-suffice
returns-clause-suffice c = budgets_suffice
