use Rattle.std.proofs.Common.{refl}
use Rattle.xc_tree.proofs.Forms.{expression-made, form-Cond}
use Rattle.xc_nonterminals.proofs.nodes.choice.Goals as goal

pub returns-in-Ok-clause-made : goal.returns-in-Ok-clause-made
returns-in-Ok-clause-made c =
    let choices = c.in-Ok.ensures.second in
    let first = rw (rw choices at c.zip_ok-choices.ensures.first) at c.boxed.ensures in
    let second = rw (rw choices at c.zip_ok-choices.ensures.second) at c.boxed-2.ensures in
    let test = rw c.in-Ok.ensures.first at c.boxed-3.ensures in
    rw (expression-made, form-Cond, test, first, second) refl
