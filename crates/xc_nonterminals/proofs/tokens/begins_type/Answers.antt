use Rattle.std.proofs.Common.{[], ◌∷◌, refl}
use Rattle.xc_nonterminals.proofs.Derivations.Single.{one_word}
use Rattle.xc_nonterminals.proofs.tokens.begins_type.Goals as goal
use Rattle.xc_tree.specs.Terminals as terminal

pub returns-then-is_word-clause-yes : goal.returns-then-is_word-clause-yes
returns-then-is_word-clause-yes c = λ t. one_word (terminal.int_word ∷ terminal.unsigned_word ∷ []) (c.is_word.ensures.yes t).1.1 refl

pub returns-else-is_word-clause-yes : goal.returns-else-is_word-clause-yes
returns-else-is_word-clause-yes c = λ t. one_word (terminal.int_word ∷ terminal.unsigned_word ∷ []) (c.is_word-else-is_word.ensures.yes t).1.1 refl
