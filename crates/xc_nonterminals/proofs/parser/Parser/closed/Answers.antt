use Rattle.xc_nonterminals.proofs.parser.Parser.closed.Goals as goal

pub returns-clause-read : goal.returns-clause-read
returns-clause-read g c = (c.in_ok-behind.behind.value, c.in_ok-behind.ensures.read)
