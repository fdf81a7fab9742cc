use Rattle.xf_time.specs.Rows.{IsFilledFrom}
use Rattle.xf_time.proofs.rows.row_of.Given as goal

abbrev pub invariant-loop-left : goal.invariant-loop-left
invariant-loop-left l = IsFilledFrom l.code l.to l.left 0 l.row
