use Rattle.std.proofs.Common.{◌≡◌, drop}
use Rattle.xs_core.proofs.boot.part_of.Given as goal
use Rattle.xs_instr.specs.Machine.{parts_in}

abbrev pub invariant-loop-part : goal.invariant-loop-part
invariant-loop-part l = parts_in l.cores l.number ≡ parts_in (drop l.part-index l.cores) l.number
