use Rattle.std.proofs.Common.{◌≤◌, ◌<◌, ◌-◌, ℕ, length}
use Rattle.xc_tree.specs.Symbol as symbol
use Rattle.xc_nonterminals.proofs.Reading.Listed.{Listed}
use Rattle.xc_nonterminals.proofs.Declaring.ParamRows.{row_of_params}
use Rattle.xc_nonterminals.proofs.parser.Parser.params.Given as goal

abbrev pub invariant-params : goal.invariant-params
invariant-params l = record {
  after : l.at < l.end;
  within : l.end ≤ length l.self.toks.now;
  listed : (room : ℕ) → Listed l.self.toks.now room symbol.params l.at row_of_params l.end l.value;
}

abbrev pub decreases-params : goal.decreases-params
decreases-params l = length l.self.toks.now - l.end
