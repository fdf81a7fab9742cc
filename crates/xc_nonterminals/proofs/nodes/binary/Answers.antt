use Rattle.std.proofs.Common.{refl}
use Rattle.xc_tree.proofs.Forms.{expression-made, form-Bin}
use Rattle.xc_nonterminals.proofs.nodes.binary.Goals as goal

pub returns-in-Ok-clause-made : goal.returns-in-Ok-clause-made
returns-in-Ok-clause-made c =
    let left = rw c.in-Ok.ensures.first at c.boxed.ensures in
    let right = rw c.in-Ok.ensures.second at c.boxed-2.ensures in
    rw (expression-made, form-Bin, left, right) refl
