use Rattle.xc_nonterminals.proofs.Meeting.Sole.{sole_program}
use Rattle.xc_parser.proofs.laws.at_most_one_tree.Goals as goal

pub returns : goal.returns
returns c = sole_program
