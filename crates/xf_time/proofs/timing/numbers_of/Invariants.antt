use Rattle.xf_time.proofs.Numbers.{NumbersTo}
use Rattle.xf_time.proofs.timing.numbers_of.Given as goal

abbrev pub invariant-loop-line : goal.invariant-loop-line
invariant-loop-line l = NumbersTo l.image l.routes l.numbers l.line-index
