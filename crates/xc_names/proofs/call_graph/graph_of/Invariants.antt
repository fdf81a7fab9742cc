use Rattle.xc_names.specs.Graphs.{HasCalls}
use Rattle.xc_names.proofs.call_graph.graph_of.Given as goal

abbrev pub invariant-loop-f : goal.invariant-loop-f
invariant-loop-f l = HasCalls l.marks l.meant l.starts l.f l.edges
