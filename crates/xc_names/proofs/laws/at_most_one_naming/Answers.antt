use Rattle.xc_names.proofs.OneNaming.{one_naming}
use Rattle.xc_names.proofs.laws.at_most_one_naming.Goals as goal

pub returns : goal.returns
returns c = one_naming
