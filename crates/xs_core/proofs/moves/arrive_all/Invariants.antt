use Rattle.std.proofs.Common.{◌≡◌, drop}
use Rattle.xs_core.proofs.moves.arrive_all.Given as goal
use Rattle.xs_core.specs.Room.{HasRoomAlong}
use Rattle.xs_instr.specs.Ends.{all_arrive}

abbrev pub invariant-loop-moved : goal.invariant-loop-moved
invariant-loop-moved l = record {
  all : all_arrive l.ends (drop l.moved-index l.moves) ≡ all_arrive l.initial.ends l.moves;
  room : HasRoomAlong l.ends (drop l.moved-index l.moves);
}
