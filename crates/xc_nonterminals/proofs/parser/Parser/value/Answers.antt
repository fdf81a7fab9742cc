use Rattle.xc_nonterminals.proofs.Valued.RightSides.{reads_value, stops_value}
use Rattle.xc_nonterminals.proofs.parser.Parser.value.Goals as goal

pub returns-in-Ok-clause-read : goal.returns-in-Ok-clause-read
returns-in-Ok-clause-read c = reads_value c.args.self.now.toks.now c.requires.no_call c.in-Ok.ensures.bounds.0 c.in-Ok.ensures.read

pub returns-in-Err-clause-stopped : goal.returns-in-Err-clause-stopped
returns-in-Err-clause-stopped c = stops_value c.args.self.now.toks.now c.requires.no_call c.args.room c.requires.room c.in-Err.e c.in-Err.ensures.stopped
