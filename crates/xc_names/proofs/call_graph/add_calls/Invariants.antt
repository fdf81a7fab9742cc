use Rattle.xc_names.proofs.Graphs.{InItem}
use Rattle.xc_names.proofs.call_graph.add_calls.Given as goal

abbrev pub invariant-loop-at : goal.invariant-loop-at
invariant-loop-at l = InItem l.marks l.meant l.starts l.f l.first l.at l.edges
