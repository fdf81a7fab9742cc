use Rattle.std.proofs.Common.{◌≡◌, ◌≤◌, ◌+◌, length}
use Rattle.xs_fabric.specs.Lockstep.{all_came, due_of, late_of}
use Rattle.xs_fabric.specs.Rooms.{AllHaveRoom}
use Rattle.xs_fabric.proofs.delivery.deliver_due.Given as goal

abbrev pub decreases-due : goal.decreases-due
decreases-due l = length l.link

abbrev pub invariant-due : goal.invariant-due
invariant-due l = record {
  room : AllHaveRoom l.fn.core.home l.core.state (due_of l.fn.core.state.clock l.link);
  state : all_came l.core.state (due_of l.fn.core.state.clock l.link) ≡ all_came l.fn.core.state (due_of l.fn.core.state.clock l.fn.link);
  rest : l.core ≡ record l.fn.core { state = l.core.state };
  late : late_of l.fn.core.state.clock l.link ≡ late_of l.fn.core.state.clock l.fn.link;
  count : l.count + length (due_of l.fn.core.state.clock l.link) ≡ length (due_of l.fn.core.state.clock l.fn.link);
  few : l.count + length l.link ≤ 512;
}
