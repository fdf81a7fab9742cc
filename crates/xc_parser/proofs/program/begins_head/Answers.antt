use Rattle.std.proofs.Common.{refl}
use Rattle.xc_tree.specs.Symbol.{head}
use Rattle.xc_nonterminals.specs.Follows.{first}
use Rattle.xc_nonterminals.proofs.Derivations.Single.{one_word}
use Rattle.xc_parser.proofs.program.begins_head.Goals as goal

pub returns-then-is_word-clause-yes : goal.returns-then-is_word-clause-yes
returns-then-is_word-clause-yes c = λ t. one_word (first head) (c.is_word.ensures.yes c.if-is_word.true).1.1 refl
