use Rattle.std.proofs.Common.{◌≡◌, ◌+◌, ◌≤◌, ◌++◌, drop, length}
use Rattle.xs_core.proofs.moves.send_all.Given as goal
use Rattle.xs_instr.specs.Ends.{all_sent}

abbrev pub invariant-loop-moved : goal.invariant-loop-moved
invariant-loop-moved l = record {
  all : l.outbox.items ++ all_sent l.to l.tick (drop l.moved-index l.moves) ≡ l.initial.outbox.items ++ all_sent l.to l.tick l.moves;
  room : length l.outbox.items + length (drop l.moved-index l.moves) ≤ l.outbox.capacity;
  capacity : l.outbox.capacity ≡ l.initial.outbox.capacity;
}
