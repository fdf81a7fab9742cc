use Rattle.std.proofs.Common.{◌≡◌, ◌++◌, drop}
use Rattle.xc_size.specs.Callees.{called_numbers}
use Rattle.xc_size.specs.Numbers.{number_of}
use Rattle.xc_size.proofs.callees.callees.Given as goal

abbrev pub invariant-loop-mark : goal.invariant-loop-mark
invariant-loop-mark l =
    called_numbers (number_of l.names) l.mark-items ≡ l.list ++ called_numbers (number_of l.names) (drop l.mark-index l.mark-items)
