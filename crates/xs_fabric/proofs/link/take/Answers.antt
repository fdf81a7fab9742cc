use Rattle.std.proofs.Common.{◌<◌, length, arith}
use Rattle.xs_fabric.proofs.Taken.{taken}
use Rattle.xs_fabric.proofs.link.take.Goals as goal

pub returns : goal.returns
returns c =
    let links = c.args.links.now in
    let four = c.told-links in
    let from = c.requires.from in
    let lt : c.args.from < length links = omega (arith, four, from) in
    taken _ links c.args.from c.args.to c.take_from.result _ lt c.take_from.ensures
