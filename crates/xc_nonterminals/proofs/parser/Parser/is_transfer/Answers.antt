use Rattle.std.proofs.Common.{refl}
use Rattle.xc_nonterminals.specs.CaseParts.{transfers}
use Rattle.xc_nonterminals.proofs.Derivations.Single.{one_symbol, one_word}
use Rattle.xc_nonterminals.proofs.parser.Parser.is_transfer.Goals as goal

pub returns-then-is_symbol-clause-yes : goal.returns-then-is_symbol-clause-yes
returns-then-is_symbol-clause-yes c = λ t. one_symbol transfers (c.is_symbol.ensures.yes c.if-is_symbol.true).1.1 refl

pub returns-then-is_symbol-2-clause-yes : goal.returns-then-is_symbol-2-clause-yes
returns-then-is_symbol-2-clause-yes c = λ t. one_symbol transfers (c.is_symbol-2.ensures.yes c.if-is_symbol-2.true).1.1 refl

pub returns-clause-yes : goal.returns-clause-yes
returns-clause-yes c = λ t. one_word transfers (c.is_word.ensures.yes t).1.1 refl
