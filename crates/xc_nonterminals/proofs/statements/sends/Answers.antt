use Rattle.std.proofs.Common.{[], ◌∷◌, refl}
use Rattle.xc_nonterminals.proofs.Derivations.Single.{one_symbol}
use Rattle.xc_nonterminals.proofs.statements.sends.Goals as goal
use Rattle.xc_tree.specs.Terminals as terminal

pub returns-then-is_symbol-clause-yes : goal.returns-then-is_symbol-clause-yes
returns-then-is_symbol-clause-yes c = λ t. one_symbol (terminal.sends ∷ terminal.at_sign ∷ []) (c.is_symbol.ensures.yes t).1.1 refl

pub returns-else-is_symbol-clause-yes : goal.returns-else-is_symbol-clause-yes
returns-else-is_symbol-clause-yes c = λ t. one_symbol (terminal.sends ∷ terminal.at_sign ∷ []) (c.is_symbol-else-is_symbol.ensures.yes t).1.1 refl
