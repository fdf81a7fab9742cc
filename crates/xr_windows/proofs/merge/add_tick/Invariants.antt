use Rattle.std.proofs.Common.{◌≡◌, ◌≤◌, ◌++◌, ◌-◌, drop, length}
use Rattle.xr_windows.specs.Cut.{first_at, rest_at}
use Rattle.xr_windows.proofs.merge.add_tick.Given as goal

abbrev pub invariant-records : goal.invariant-records
invariant-records l = record {
  within : l.at ≤ length l.records;
  added : l.trace.items ++ first_at l.tick (drop l.at l.records) ≡ l.fn.trace.items ++ first_at l.tick (drop l.fn.from l.records);
  rest : rest_at l.tick (drop l.at l.records) ≡ rest_at l.tick (drop l.fn.from l.records);
}

abbrev pub decreases-records : goal.decreases-records
decreases-records l = length l.records - l.at
