use Rattle.std.proofs.Common.{refl}
use Rattle.xc_tree.proofs.Forms.{expression-made, form-Un}
use Rattle.xc_nonterminals.proofs.nodes.unary.Goals as goal

pub returns-in-Ok-clause-made : goal.returns-in-Ok-clause-made
returns-in-Ok-clause-made c = rw (expression-made, form-Un, c.in-Ok.ensures) refl
