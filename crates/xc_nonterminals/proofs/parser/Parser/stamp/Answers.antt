use Rattle.xc_nonterminals.proofs.Reading.Tests.{stands_here}
use Rattle.xc_nonterminals.proofs.Valued.RightSides.{no_stamp, reads_stamp, stops_stamp}
use Rattle.xc_nonterminals.proofs.parser.Parser.stamp.Goals as goal

pub returns-then-not-is_symbol-clause-stopped : goal.returns-then-not-is_symbol-clause-stopped
returns-then-not-is_symbol-clause-stopped c = no_stamp c.args.self.now.toks.now c.args.room c.args.at (c.is_symbol.ensures.no c.if-not-is_symbol.true)

pub returns-in-Ok-clause-read : goal.returns-in-Ok-clause-read
returns-in-Ok-clause-read c =
    let y = c.is_symbol.ensures.yes c.if-not-is_symbol.false in
    reads_stamp (stands_here c.index-self-at.result y.0 y.1.1) c.in-Ok.ensures.read

pub returns-in-Err-clause-stopped : goal.returns-in-Err-clause-stopped
returns-in-Err-clause-stopped c =
    let y = c.is_symbol.ensures.yes c.if-not-is_symbol.false in
    stops_stamp c.args.self.now.toks.now c.args.room c.args.at c.in-Err.e y.1.1 c.in-Err.ensures.stopped
