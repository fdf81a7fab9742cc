use Rattle.std.proofs.Common.{◌≡◌, ◌≤◌, ◌-◌, drop, length}
use Rattle.xr_windows.proofs.coming.deliver_first.Given as goal
use Rattle.xs_fabric.specs.Lockstep.{all_came, due_of, late_of}
use Rattle.xs_fabric.specs.Rooms.{AllHaveRoom}

abbrev pub decreases-items : goal.decreases-items
decreases-items l = length l.items - l.at

abbrev pub invariant-items : goal.invariant-items
invariant-items l = record {
  within : l.at ≤ length l.items;
  room : AllHaveRoom l.fn.core.home l.core.state (due_of l.clock (drop l.at l.items));
  state : all_came l.core.state (due_of l.clock (drop l.at l.items)) ≡ all_came l.fn.core.state (due_of l.clock l.items);
  rest : l.core ≡ record l.fn.core { state = l.core.state };
  late : late_of l.clock (drop l.at l.items) ≡ late_of l.clock l.items;
}
