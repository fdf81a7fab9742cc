use Rattle.std.proofs.Common.{◌-◌, ◌≤◌, length}
use Rattle.xc_names.proofs.scopes.zeros.Given as goal

abbrev pub invariant-zeros : goal.invariant-zeros
invariant-zeros l = length l.xs ≤ l.n

abbrev pub decreases-zeros : goal.decreases-zeros
decreases-zeros l = l.n - length l.xs
