use Rattle.std.proofs.Common.{◌≡◌}
use Rattle.xl_plan.specs.Layout.{ends_below}
use Rattle.xl_plan.proofs.resources.end_identifiers.Given as goal

abbrev pub invariant-loop-number : goal.invariant-loop-number
invariant-loop-number l = l.all ≡ ends_below l.core l.number
