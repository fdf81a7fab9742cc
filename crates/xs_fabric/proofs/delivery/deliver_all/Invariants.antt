use Rattle.std.proofs.Common.{◌≡◌, ◌≤◌, ◌*◌, length}
use Rattle.xs_fabric.specs.Lockstep.{due_from, late_from}
use Rattle.xs_fabric.proofs.Coming.{came_to}
use Rattle.xs_fabric.proofs.delivery.deliver_all.Given as goal

abbrev pub invariant-loop-from : goal.invariant-loop-from
invariant-loop-from l = record {
  came : l.core ≡ came_to l.fn.core l.fn.links l.from;
  links : l.links ≡ late_from l.fn.links l.fn.core.home.number l.fn.core.state.clock l.from;
  count : l.count ≡ length (due_from l.fn.links l.fn.core.home.number l.fn.core.state.clock l.from);
  few : l.count ≤ 512 * l.from;
}
