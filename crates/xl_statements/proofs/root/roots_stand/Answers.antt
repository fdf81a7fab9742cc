use Rattle.xl_statements.proofs.Stands.{roots_stand}
use Rattle.xl_statements.proofs.root.roots_stand.Goals as goal

pub returns : goal.returns
returns c = roots_stand
