use Rattle.std.proofs.Common.{refl}
use Rattle.xc_tree.specs.Trees.{action_of}
use Rattle.xc_tree.proofs.Forms.{statement-made}
use Rattle.xc_nonterminals.proofs.Derivations.Counts.{whole_is}
use Rattle.xc_nonterminals.proofs.parser.Parser.whole.Goals as goal

pub returns-clause-made : goal.returns-clause-made
returns-clause-made c =
    (refl, rw (statement-made, c.in_ok-kind.ensures) (whole_is c.args.self.now.toks.now c.args.at c.args.end c.args.held (action_of c.args.kind) c.index-self-at.result c.index-self-end.result c.requires.forth c.requires.within c.requires.held))
