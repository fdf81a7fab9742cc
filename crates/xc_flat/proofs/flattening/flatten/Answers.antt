use Rattle.xc_flat.proofs.Handed.{few_parameters, few_ports}
use Rattle.xc_flat.proofs.flattening.flatten.Goals as goal

pub copy-requires-clause-ports : goal.copy-requires-clause-ports
copy-requires-clause-ports c = few_ports c.requires.typed

pub copy-requires-clause-parameters : goal.copy-requires-clause-parameters
copy-requires-clause-parameters c = few_parameters c.requires.typed
