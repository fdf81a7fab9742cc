use Rattle.std.proofs.Common.{◌-◌, length, map}
use Rattle.xc_tree.specs.Trees.{argument_of}
use Rattle.xc_nonterminals.proofs.Valued.RightSides.{Listing}
use Rattle.xc_nonterminals.proofs.parser.Parser.arguments.Given as goal

abbrev pub invariant-arguments : goal.invariant-arguments
invariant-arguments l = Listing l.self.toks.now l.room l.at l.end (map argument_of l.value)

abbrev pub decreases-arguments : goal.decreases-arguments
decreases-arguments l = length l.self.toks.now - l.end
