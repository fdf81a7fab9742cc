use Rattle.std.proofs.Common.{length, take, ◌-◌, ◌≡◌, ◌≤◌, true}
use Rattle.xw_io.specs.Gathering.{Went}
use Rattle.xw_io.proofs.output.Out.write.Given as goal

abbrev pub invariant-loop-start : goal.invariant-loop-start
invariant-loop-start g l = record {
  within : l.start ≤ length l.piece;
  same_sink : l.self.sink.ghost_name ≡ l.initial.self.sink.ghost_name;
  usable : l.self.usable ≡ true;
  went : Went g.O.Sink.bytes g.O.Sink.faults l.initial.self l.self (take l.start l.piece);
}

abbrev pub decreases-loop-start : goal.decreases-loop-start
decreases-loop-start g l = length l.piece - l.start
