use Rattle.std.proofs.Common.{sym}
use Rattle.std.proofs.lemmas.List.{get_or_past}
use Rattle.xc_nonterminals.specs.Levels.{levels}
use Rattle.xc_nonterminals.proofs.tokens.level_of.Goals as goal

pub returns-then-symbol-ge47 : goal.returns-then-symbol-ge47
returns-then-symbol-ge47 c = sym (get_or_past levels c.args.symbol 0 c.if-symbol-ge47.true)
