use Rattle.xc_nonterminals.proofs.Stating.Guards.{deep_arrow, deep_further, wrong_further}
use Rattle.xc_nonterminals.proofs.parser.Parser.no_guard.Goals as goal

pub returns-then-is_symbol : goal.returns-then-is_symbol
returns-then-is_symbol c = deep_arrow c.requires.name.1.2 c.requires.no_input (c.is_symbol.ensures.yes c.if-is_symbol.true).1.1

pub returns-then-goes_on : goal.returns-then-goes_on
returns-then-goes_on c = deep_further c.requires.name.1.2 c.requires.no_input (c.goes_on.ensures.yes c.if-goes_on.true).1

pub returns : goal.returns
returns c = wrong_further c.requires.name.1.2 c.requires.no_input (c.is_symbol.ensures.no c.if-is_symbol.false) (c.goes_on.ensures.no c.if-goes_on.false)
