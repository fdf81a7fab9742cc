use Rattle.xc_names.proofs.Numbers.{Counts}
use Rattle.xc_names.proofs.uses.numbers.Given as goal

abbrev pub invariant-loop-mark : goal.invariant-loop-mark
invariant-loop-mark l = Counts l.marks l.mark-index l.count l.numbers
