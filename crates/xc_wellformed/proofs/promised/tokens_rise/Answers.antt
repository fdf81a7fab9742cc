use Rattle.xc_wellformed.proofs.Texts.{texts_rise}
use Rattle.xc_wellformed.proofs.promised.tokens_rise.Goals as goal

pub returns : goal.returns
returns c = texts_rise
