use Rattle.std.proofs.Common.{◌<◌, ◌∙◌, length, sym, ap, arith}
use Rattle.xs_instr.specs.Machine.{items_in}
use Rattle.xs_core.proofs.There.{there}
use Rattle.xs_fabric.specs.EndWord.{no_items}
use Rattle.xs_fabric.proofs.link.is_empty_at.Goals as goal

pub returns : goal.returns
returns c =
    let out = c.args.out.now in
    let four = c.type_inv.out in
    let to = c.requires in
    let within : c.args.to < length out = omega (arith, four, to) in
    c.is_empty.ensures ∙ sym (ap (λ found. no_items (items_in found)) (there out c.args.to c.index-out-to.result within))
