use Rattle.std.proofs.Common.{◌≡◌, ◌≤◌, ◌+◌, ◌*◌, length, vec_len, vec_capacity}
use Rattle.xr_windows.specs.Goes.{Holds}
use Rattle.xr_windows.proofs.Ticking.{begun}
use Rattle.xr_windows.proofs.rounds.take_turns.Given as goal
use Rattle.xs_fabric.specs.Lockstep.{turns}

abbrev pub invariant-loop-thread : goal.invariant-loop-thread
invariant-loop-thread l = record {
  turns : Holds (turns l.fn.core.home (begun l.fn.core.state) l.thread) l.tick l.fn.core.outbox l.fn.records.items l.core l.records.items;
  home : l.core.home ≡ l.fn.core.home;
  few : length l.core.outbox ≤ length l.fn.core.outbox + 4 * l.thread;
  spare : l.core.spare + length l.core.outbox ≡ l.fn.core.spare + length l.fn.core.outbox;
  len : vec_len l.records ≤ vec_len l.fn.records + l.thread;
  capacity : vec_capacity l.fn.records ≤ vec_capacity l.records;
}
