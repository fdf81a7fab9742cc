use Rattle.xc_names.proofs.Graphs.{item_on, item_ends}
use Rattle.xc_names.proofs.call_graph.add_calls.Goals as goal

pub loop-at-preserved : goal.loop-at-preserved
loop-at-preserved c = item_on c.args.marks.now c.args.meant.now c.args.starts.now c.args.f c.body-first.result.0 c.loop-at.at c.loop-at.edges c.add_call.new.edges c.loop-at.invariant c.in_ok-add_call.ensures.kept c.in_ok-add_call.ensures.added

pub returns : goal.returns
returns c = item_ends c.args.marks.now c.args.meant.now c.args.starts.now _ c.args.f c.body-first.result.0 c.body-first.result.1 c.loop-at.at c.loop-at.edges c.body-first.ensures c.loop-at-test.false c.loop-at.invariant
