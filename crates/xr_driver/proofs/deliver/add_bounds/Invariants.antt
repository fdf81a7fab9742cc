use Rattle.std.proofs.Common.{◌≡◌, take}
use Rattle.xw_io.specs.Gathering.{Drew}
use Rattle.xs_instr.specs.Texts.{all_texts}
use Rattle.xr_driver.specs.Lines.{bound_line}
use Rattle.xr_driver.proofs.deliver.add_bounds.Given as goal

abbrev pub invariant-loop-i : goal.invariant-loop-i
invariant-loop-i g l =
    (l.out.sink.ghost_name ≡ l.initial.out.sink.ghost_name)
    × Drew g.O.Sink.bytes g.O.Sink.faults l.initial.out l.out (all_texts bound_line (take l.i l.numbers))
