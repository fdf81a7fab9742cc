use Rattle.xc_wellformed.proofs.Sourced.{code_has_source}
use Rattle.xc_wellformed.proofs.promised.code_comes_from_text.Goals as goal

pub returns : goal.returns
returns c = code_has_source
