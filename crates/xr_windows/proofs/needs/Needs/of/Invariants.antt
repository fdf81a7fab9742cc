use Rattle.std.proofs.Common.{◌≡◌, None, length}
use Rattle.xr_windows.specs.Sending.{latest}
use Rattle.xr_windows.proofs.needs.Needs.of.Given as goal

abbrev pub decreases-batches : goal.decreases-batches
decreases-batches g l = length l.rest.items

abbrev pub invariant-batches : goal.invariant-batches
invariant-batches g l = record {
  from0 : latest 0 l.needs.from0 l.rest.items ≡ latest 0 None l.fn.batches;
  from1 : latest 1 l.needs.from1 l.rest.items ≡ latest 1 None l.fn.batches;
  from2 : latest 2 l.needs.from2 l.rest.items ≡ latest 2 None l.fn.batches;
  from3 : latest 3 l.needs.from3 l.rest.items ≡ latest 3 None l.fn.batches;
}
