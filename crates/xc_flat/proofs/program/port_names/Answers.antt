use Rattle.xc_flat.specs.Ports.{names_among}
use Rattle.xc_flat.proofs.Ports.{names_more, names_all}
use Rattle.xc_flat.proofs.program.port_names.Goals as goal

pub loop-item-preserved : goal.loop-item-preserved
loop-item-preserved c =
    names_more c.args.tree.now.items c.as_slice-item-items.result.now c.loop-item.item-index c.item-item.result (names_among c.loop-item.names.items)
    c.as_slice-item-items.ensures c.item-item.is c.loop-item-test.true c.in-Ok.ensures c.loop-item.invariant

pub returns : goal.returns
returns c = names_all c.args.tree.now.items c.as_slice-item-items.result.now c.loop-item.item-index (names_among c.loop-item.names.items) c.as_slice-item-items.ensures c.loop-item-test.false c.loop-item.invariant
