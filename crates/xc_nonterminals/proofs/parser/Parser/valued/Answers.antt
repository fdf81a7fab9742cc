use Rattle.std.proofs.Common.{arith}
use Rattle.xc_nonterminals.proofs.Valued.RightSides.{place_is}
use Rattle.xc_nonterminals.proofs.parser.Parser.valued.Goals as goal

pub returns-clause-read : goal.returns-clause-read
returns-clause-read c = record { read = c.in-Ok.ensures.read; first = place_is c.args.self.now.toks.now c.args.at c.index-self-at.result (omega (arith, c.in-Ok.ensures.bounds)) }
