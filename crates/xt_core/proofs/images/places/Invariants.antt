use Rattle.std.proofs.Common.{◌≡◌, length}
use Rattle.xt_core.proofs.images.places.Given as goal

abbrev pub invariant-loop-line : goal.invariant-loop-line
invariant-loop-line l = length l.list ≡ l.line
