use Rattle.xc_lexer.proofs.Extents.{pieces_tile}
use Rattle.xc_lexer.proofs.laws.pieces_lie_behind_each_other.Goals as goal

pub returns : goal.returns
returns c = pieces_tile c.args.text.now
