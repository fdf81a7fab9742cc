use Rattle.std.proofs.Common.{refl}
use Rattle.xc_tree.proofs.Forms.{expression-made, form-Num}
use Rattle.xc_nonterminals.proofs.nodes.number.Goals as goal

pub returns : goal.returns
returns c = record { made = rw (expression-made, form-Num) refl }
