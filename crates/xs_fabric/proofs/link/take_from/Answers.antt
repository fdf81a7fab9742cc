use Rattle.std.proofs.Common.{◌<◌, length, arith}
use Rattle.xs_fabric.proofs.Taken.{taken_from}
use Rattle.xs_fabric.proofs.link.take_from.Goals as goal

pub returns : goal.returns
returns c =
    let out = c.args.out.now in
    let four = c.told-out in
    let to = c.requires in
    let lt : c.args.to < length out = omega (arith, four, to) in
    taken_from _ out c.args.to c.take.result _ lt c.take.ensures
