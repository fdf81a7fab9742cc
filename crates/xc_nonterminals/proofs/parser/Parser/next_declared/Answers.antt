use Rattle.std.proofs.Common.{inr, refl}
use Rattle.xc_nonterminals.proofs.parser.Parser.next_declared.Goals as goal
use Rattle.xc_nonterminals.proofs.parser.Parser.next_declared.Goals.{then-is_symbol-via-then-is_symbol, then-is_symbol-via-else-is_symbol+then-is_symbol-2}
use Rattle.xc_tree.specs.Terminals as terminal

pub returns-then-is_symbol-clause-stopped : goal.returns-then-is_symbol-clause-stopped
returns-then-is_symbol-clause-stopped c =
    let unfit = rw c.in_default.is at c.in_ok-value.ensures.unfit in
    elim c.then-is_symbol.branch [
      | then-is_symbol-via-then-is_symbol w ↦ inr (c.in_ok-value.field-0.end, unfit, (refl, record { token = terminal.comma; stands = (c.is_symbol.ensures.yes w.if-is_symbol.true).1; among = refl }))
      | then-is_symbol-via-else-is_symbol+then-is_symbol-2 w ↦ inr (c.in_ok-value.field-0.end, unfit, (refl, record { token = terminal.semicolon; stands = (w.is_symbol-else-is_symbol.ensures.yes w.if-is_symbol-2.true).1; among = refl }))
    ]
