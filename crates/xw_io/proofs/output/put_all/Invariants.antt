use Rattle.std.proofs.Common.{length, take, ◌-◌, ◌≡◌, ◌≤◌}
use Rattle.xw_io.specs.Outside.{gained}
use Rattle.xw_io.proofs.output.put_all.Given as goal

abbrev pub invariant-loop-start : goal.invariant-loop-start
invariant-loop-start g l = record {
  within : l.start ≤ length l.text;
  counts : g.O.Sink.faults l.initial.sink ≤ g.O.Sink.faults l.sink;
  told : g.O.Sink.bytes l.sink ≡ gained (g.O.Sink.bytes l.initial.sink) (take l.start l.text);
}

abbrev pub decreases-loop-start : goal.decreases-loop-start
decreases-loop-start g l = length l.text - l.start
