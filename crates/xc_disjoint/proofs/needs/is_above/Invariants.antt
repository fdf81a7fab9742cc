use Rattle.std.proofs.Common.{◌≡◌, drop}
use Rattle.xc_disjoint.specs.Sums.{some_above}
use Rattle.xc_disjoint.proofs.needs.is_above.Given as goal

abbrev pub invariant-loop-number : goal.invariant-loop-number
invariant-loop-number l = some_above l.limit l.needed ≡ some_above l.limit (drop l.number-index l.needed)
