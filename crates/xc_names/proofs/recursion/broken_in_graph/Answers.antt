use Rattle.std.proofs.Common.{List, length, sym, subst}
use Rattle.xc_names.specs.declared.graph.Edge.{Edge}
use Rattle.xc_names.specs.Graphs.{HasCalls}
use Rattle.xc_names.proofs.recursion.broken_in_graph.Goals as goal

pub broken_by_numbers-broken-requires-clause-calls : goal.broken_by_numbers-broken-requires-clause-calls
broken_by_numbers-broken-requires-clause-calls c =
    subst (λ (es : List Edge). HasCalls c.args.marks.now c.args.meant.now c.args.starts.now (length c.args.starts.now) es) (sym c.as_slice.ensures) c.requires.calls
