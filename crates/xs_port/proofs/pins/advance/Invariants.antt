use Rattle.std.proofs.Common.{length, ◌-◌, drop}
use Rattle.xs_instr.specs.Valid.{AreGoodLines}
use Rattle.xs_port.specs.Lines.{Used}
use Rattle.xs_port.proofs.pins.advance.Given as goal

abbrev pub invariant-loop-next : goal.invariant-loop-next
invariant-loop-next l =
    AreGoodLines 0 (drop l.next l.lines)
    × Used (drop l.fn.used l.lines) (drop l.next l.lines) l.core l.clock l.fn.values l.values

abbrev pub decreases-loop-next : goal.decreases-loop-next
decreases-loop-next l = length l.lines - l.next
