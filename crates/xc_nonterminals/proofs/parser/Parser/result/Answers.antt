use Rattle.std.proofs.Common.{sym, subst, arith}
use Rattle.xc_tree.specs.Symbol as symbol
use Rattle.xc_nonterminals.specs.Reading.{Reads}
use Rattle.xc_nonterminals.proofs.Valued.RightSides.{reads_result, stops_result}
use Rattle.xc_nonterminals.proofs.parser.Parser.result.Goals as goal

pub returns-in-Ok-clause-read : goal.returns-in-Ok-clause-read
returns-in-Ok-clause-read c = subst (Reads c.args.self.now.toks.now c.args.room symbol.rhs c.args.at c.in-Ok.read.end) (sym c.right_side.ensures) (reads_result c.args.self.now.toks.now c.requires.name.1.2 c.requires.paren.1 (let b = c.in-Ok.ensures.bounds in omega arith) c.in-Ok.ensures.read)

pub returns-in-Err-clause-stopped : goal.returns-in-Err-clause-stopped
returns-in-Err-clause-stopped c = stops_result c.args.self.now.toks.now c.args.room c.requires.name.1.2 c.requires.paren.1 c.in-Err.e c.in-Err.ensures.stopped
