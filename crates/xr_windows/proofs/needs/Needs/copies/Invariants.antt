use Rattle.std.proofs.Common.{◌≡◌, take}
use Rattle.xr_windows.proofs.needs.Needs.copies.Given as goal

abbrev pub invariant-loop-batch : goal.invariant-loop-batch
invariant-loop-batch g l = l.copies ≡ take l.batch-index l.batches
