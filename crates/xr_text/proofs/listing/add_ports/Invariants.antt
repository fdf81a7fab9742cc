use Rattle.std.proofs.Common.{◌≡◌, take}
use Rattle.xr_text.proofs.listing.add_ports.Given as goal
use Rattle.xs_instr.specs.Texts.{all_texts, port_line}
use Rattle.xw_io.specs.Gathering.{Drew}

abbrev pub invariant-loop-i : goal.invariant-loop-i
invariant-loop-i g l = record {
  same_sink : l.out.sink.ghost_name ≡ l.initial.out.sink.ghost_name;
  drew : Drew g.O.Sink.bytes g.O.Sink.faults l.initial.out l.out (all_texts port_line (take l.i l.ports));
}
