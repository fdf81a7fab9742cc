use Rattle.xc_lexer.proofs.Extents.{tokens_stand}
use Rattle.xc_lexer.proofs.laws.tokens_stand_at_their_pieces.Goals as goal

pub returns : goal.returns
returns c = tokens_stand c.args.text.now
