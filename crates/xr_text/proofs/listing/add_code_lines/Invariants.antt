use Rattle.std.proofs.Common.{◌≡◌, take}
use Rattle.xr_text.proofs.listing.add_code_lines.Given as goal
use Rattle.xs_instr.specs.Texts.{code_lines}
use Rattle.xw_io.specs.Gathering.{Drew}

abbrev pub invariant-loop-i : goal.invariant-loop-i
invariant-loop-i g l = record {
  same_sink : l.out.sink.ghost_name ≡ l.initial.out.sink.ghost_name;
  drew : Drew g.O.Sink.bytes g.O.Sink.faults l.initial.out l.out (code_lines 0 (take l.i l.instrs) (take l.i l.places));
}
