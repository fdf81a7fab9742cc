use Rattle.std.proofs.Common.{refl}
use Rattle.xc_tree.proofs.Forms.{expression-made, form-Name}
use Rattle.xc_nonterminals.proofs.nodes.name.Goals as goal

pub returns : goal.returns
returns c = record { made = rw (expression-made, form-Name) refl }
