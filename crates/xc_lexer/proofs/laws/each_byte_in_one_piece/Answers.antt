use Rattle.xc_lexer.proofs.Extents.{each_once}
use Rattle.xc_lexer.proofs.laws.each_byte_in_one_piece.Goals as goal

pub returns : goal.returns
returns c = each_once c.args.text.now
