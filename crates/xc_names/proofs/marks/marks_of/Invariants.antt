use Rattle.std.proofs.Common.{map}
use Rattle.xc_tree.specs.Trees.{item_of}
use Rattle.xc_names.proofs.Starts.{SoFar}
use Rattle.xc_names.proofs.marks.marks_of.Given as goal

abbrev pub invariant-loop-k : goal.invariant-loop-k
invariant-loop-k l = SoFar (map item_of l.item-items) l.k l.all l.starts
