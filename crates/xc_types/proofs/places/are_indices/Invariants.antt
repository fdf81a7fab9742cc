use Rattle.std.proofs.Common.{◌≡◌, ◌-◌}
use Rattle.xc_tree.specs.Types.Named.{named_of}
use Rattle.xc_types.specs.Places.{all_indices}
use Rattle.xc_types.proofs.places.are_indices.Given as goal

abbrev pub invariant-loop-k : goal.invariant-loop-k
invariant-loop-k l = all_indices (named_of l.named) l.first (l.last - l.first) ≡ all_indices (named_of l.named) l.k (l.last - l.k)
