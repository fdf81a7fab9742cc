use Rattle.std.proofs.Common.{IsTrue, refl, subst}
use Rattle.xc_nonterminals.specs.Follows.{begins_declaration}
use Rattle.xc_nonterminals.proofs.Derivations.TokenSets.{one_within}
use Rattle.xc_nonterminals.proofs.parser.Parser.begins_declaration.Goals as goal
use Rattle.xc_nonterminals.proofs.parser.Parser.begins_declaration.Goals.{then-begins_type, else-begins_type}
use Rattle.xc_tree.specs.Terminals as terminal

pub returns-then-is_word-clause-yes : goal.returns-then-is_word-clause-yes
returns-then-is_word-clause-yes c = λ h. elim c.if-begins_type.branch [
  | then-begins_type w ↦ one_within begins_declaration refl (c.begins_type.ensures.yes w.if-begins_type.true)
  | else-begins_type w ↦ record { token = terminal.chan_word; stands = (w.is_word.ensures.yes (subst (λ b. IsTrue b) w.value-is h)).1; among = refl }
]

pub returns-else-is_word-clause-yes : goal.returns-else-is_word-clause-yes
returns-else-is_word-clause-yes c = λ h. record { token = terminal.timer_word; stands = (c.is_word-else-is_word.ensures.yes h).1; among = refl }
