-- Which operators give the `int` 1 or 0.
use Rattle.std.specs.Prelude.{Bool, true, false}
use Rattle.xc_kernel.specs.Operators.{Operator, less, greater, equal, differs, at_most, at_least, both, either}

-- whether an operator gives 1 or 0
abbrev pub is_truth : Operator → Bool
is_truth less = true
is_truth greater = true
is_truth equal = true
is_truth differs = true
is_truth at_most = true
is_truth at_least = true
is_truth both = true
is_truth either = true
is_truth other = false
