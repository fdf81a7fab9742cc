use Rattle.xc_names.proofs.Graphs.{all_items}
use Rattle.xc_names.proofs.call_graph.graph_of.Goals as goal

pub returns : goal.returns
returns c = all_items c.args.marks.now c.args.meant.now c.args.starts.now c.loop-f.f _ c.loop-f.edges c.loop-f-test.false c.loop-f.invariant
