use Rattle.std.proofs.Common.{◌≤◌, ◌-◌, length, map}
use Rattle.xc_tree.specs.Trees.{item_of}
use Rattle.xc_nonterminals.proofs.Reading.Items.{Gathers}
use Rattle.xc_parser.proofs.program.program.Given as goal

abbrev pub invariant-items : goal.invariant-items
invariant-items l = record {
  within : l.end ≤ length l.parser.toks.now;
  gathers : Gathers l.parser.toks.now l.end (map item_of l.items);
}

abbrev pub decreases-items : goal.decreases-items
decreases-items l = length l.parser.toks.now - l.end
