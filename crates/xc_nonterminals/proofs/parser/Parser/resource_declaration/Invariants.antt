use Rattle.std.proofs.Common.{ℕ, ◌≤◌, ◌<◌, ◌-◌, length}
use Rattle.xc_nonterminals.proofs.Declaring.DeclaredRows.{Resources}
use Rattle.xc_nonterminals.proofs.parser.Parser.resource_declaration.Given as goal

abbrev pub invariant-names : goal.invariant-names
invariant-names l = record {
  after : l.at < l.end;
  within : l.end ≤ length l.self.toks.now;
  resources : (room : ℕ) → 1 ≤ room → Resources l.self.toks.now room l.at l.end l.is_chan l.declared;
}

abbrev pub decreases-names : goal.decreases-names
decreases-names l = length l.self.toks.now - l.end
