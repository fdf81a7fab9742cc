use Rattle.xc_nonterminals.proofs.Reading.Rounds.{no_test, some_test}
use Rattle.xc_nonterminals.proofs.parser.Parser.maybe_expr.Goals as goal

pub returns-then-is_symbol-clause-read : goal.returns-then-is_symbol-clause-read
returns-then-is_symbol-clause-read c =
    no_test c.args.self.now.toks.now c.args.room c.args.at (c.is_symbol.ensures.yes c.if-is_symbol.true).1.1

pub returns-clause-read : goal.returns-clause-read
returns-clause-read c =
    some_test c.args.self.now.toks.now c.args.room c.args.at c.in_ok-test.ensures.bounds.0 c.in_ok-test.ensures.read
