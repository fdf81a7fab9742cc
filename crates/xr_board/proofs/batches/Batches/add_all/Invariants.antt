use Rattle.std.proofs.Common.{◌≡◌, ◌++◌, length}
use Rattle.xr_board.specs.ForCores.{for_core}
use Rattle.xr_board.proofs.batches.Batches.add_all.Given as goal

abbrev pub invariant-batches : goal.invariant-batches
invariant-batches g l = record {
  to0 : l.self.to0 ++ for_core 0 l.rest.items ≡ l.fn.self.to0 ++ for_core 0 l.fn.out;
  to1 : l.self.to1 ++ for_core 1 l.rest.items ≡ l.fn.self.to1 ++ for_core 1 l.fn.out;
  to2 : l.self.to2 ++ for_core 2 l.rest.items ≡ l.fn.self.to2 ++ for_core 2 l.fn.out;
  to3 : l.self.to3 ++ for_core 3 l.rest.items ≡ l.fn.self.to3 ++ for_core 3 l.fn.out;
}

abbrev pub decreases-batches : goal.decreases-batches
decreases-batches g l = length l.rest.items
