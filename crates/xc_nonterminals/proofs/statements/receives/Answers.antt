use Rattle.std.proofs.Common.{[], ◌∷◌, refl}
use Rattle.xc_nonterminals.proofs.Derivations.Single.{one_symbol, one_word}
use Rattle.xc_nonterminals.proofs.statements.receives.Goals as goal
use Rattle.xc_tree.specs.Terminals as terminal

pub returns-then-is_symbol-clause-yes : goal.returns-then-is_symbol-clause-yes
returns-then-is_symbol-clause-yes c = λ t. one_symbol (terminal.receives ∷ terminal.when_word ∷ []) (c.is_symbol.ensures.yes t).1.1 refl

pub returns-else-is_symbol-clause-yes : goal.returns-else-is_symbol-clause-yes
returns-else-is_symbol-clause-yes c = λ t. one_word (terminal.receives ∷ terminal.when_word ∷ []) (c.is_word.ensures.yes t).1.1 refl
