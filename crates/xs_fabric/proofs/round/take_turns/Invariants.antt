use Rattle.std.proofs.Common.{◌≡◌, ◌≤◌, ◌+◌, ◌-◌, ◌*◌, length, vec_len, vec_capacity}
use Rattle.xs_fabric.specs.Lockstep.{steps_in, turns}
use Rattle.xs_fabric.specs.Rounds.{part}
use Rattle.xs_fabric.proofs.round.take_turns.Given as goal

abbrev pub decreases-used : goal.decreases-used
decreases-used l = 8 - l.thread

abbrev pub invariant-used : goal.invariant-used
invariant-used l = record {
  turns : part l.core l.trace.items ≡ turns l.fn.core.home (part l.fn.core l.fn.trace.items) l.thread;
  steps : l.steps ≡ steps_in l.fn.core.home (part l.fn.core l.fn.trace.items) l.thread;
  few : l.steps ≤ l.thread;
  within : l.thread ≤ 8;
  home : l.core.home ≡ l.fn.core.home;
  spare : l.core.spare + length l.core.outbox ≡ l.fn.core.spare + length l.fn.core.outbox;
  outbox : length l.core.outbox ≤ length l.fn.core.outbox + 4 * l.thread;
  len : vec_len l.trace ≤ vec_len l.fn.trace + l.thread;
  capacity : vec_capacity l.fn.trace ≤ vec_capacity l.trace;
}
