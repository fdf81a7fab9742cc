use Rattle.std.proofs.Common.{◌≤◌, length, map}
use Rattle.xc_size.specs.Functions.{function_of}
use Rattle.xc_size.specs.Numbers.{number_of}
use Rattle.xc_size.proofs.Numbered.{NumbersFrom}
use Rattle.xc_size.proofs.functions.numbers_of.Given as goal

abbrev pub invariant-back : goal.invariant-back
invariant-back l = record {
  numbers : NumbersFrom (number_of l.names) (map (λ f. function_of f.now) l.all) l.number;
  within : l.number ≤ length l.all;
}

abbrev pub decreases-back : goal.decreases-back
decreases-back l = l.number
