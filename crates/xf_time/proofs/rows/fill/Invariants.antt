use Rattle.std.proofs.Common.{◌-◌, length}
use Rattle.xf_time.specs.Rows.{IsFilledFrom}
use Rattle.xf_time.proofs.rows.fill.Given as goal

abbrev pub invariant-loop-filled : goal.invariant-loop-filled
invariant-loop-filled l = IsFilledFrom l.code l.to l.left (length l.code.instrs - l.filled) l.row
