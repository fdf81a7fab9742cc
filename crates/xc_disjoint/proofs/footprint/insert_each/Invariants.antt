use Rattle.std.proofs.Common.{◌≡◌, drop}
use Rattle.xc_disjoint.specs.Footprints.{members}
use Rattle.xc_disjoint.proofs.Sets.{with_each}
use Rattle.xc_disjoint.proofs.footprint.insert_each.Given as goal

abbrev pub invariant-loop-at : goal.invariant-loop-at
invariant-loop-at l = with_each (members l.initial.numbers.keys) l.others.keys ≡ with_each (members l.numbers.keys) (drop l.at l.others.keys)
