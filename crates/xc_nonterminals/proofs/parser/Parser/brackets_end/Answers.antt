use Rattle.xc_nonterminals.proofs.Reading.Runs.{one_more}
use Rattle.xc_nonterminals.proofs.parser.Parser.brackets_end.Goals as goal

pub brackets-preserved : goal.brackets-preserved
brackets-preserved c = let y = c.is_bracket.ensures.yes c.brackets-test.true in one_more c.brackets.invariant y.0 y.1
