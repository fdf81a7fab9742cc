use Rattle.std.proofs.Common.{refl}
use Rattle.xc_tree.specs.Symbol.{param}
use Rattle.xc_nonterminals.specs.Follows.{first}
use Rattle.xc_nonterminals.proofs.Derivations.Single.{one_word}
use Rattle.xc_nonterminals.proofs.parser.Parser.begins_param.Goals as goal

pub returns-then-is_word-clause-yes : goal.returns-then-is_word-clause-yes
returns-then-is_word-clause-yes c = λ t. one_word (first param) (c.is_word.ensures.yes c.if-is_word.true).1.1 refl

pub returns-then-is_word-2-clause-yes : goal.returns-then-is_word-2-clause-yes
returns-then-is_word-2-clause-yes c = λ t. one_word (first param) (c.is_word-2.ensures.yes c.if-is_word-2.true).1.1 refl

pub returns-then-is_word-3-clause-yes : goal.returns-then-is_word-3-clause-yes
returns-then-is_word-3-clause-yes c = λ t. one_word (first param) (c.is_word-3.ensures.yes c.if-is_word-3.true).1.1 refl

pub returns-clause-yes : goal.returns-clause-yes
returns-clause-yes c = λ t. one_word (first param) (c.is_word-4.ensures.yes t).1.1 refl
