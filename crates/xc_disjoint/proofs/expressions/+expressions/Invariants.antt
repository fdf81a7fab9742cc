use Rattle.std.proofs.Common.{◌≡◌, drop, map}
use Rattle.xc_kernel.specs.Kernels.{expression_of}
use Rattle.xc_kernel.specs.Plain as plain
use Rattle.xc_disjoint.specs.Footprints.{both, uses_in, of_operands}
use Rattle.xc_disjoint.proofs.expressions.+expressions.Given as goal

abbrev pub invariant-operands-loop-e : goal.invariant-operands-loop-e
invariant-operands-loop-e l =
    both (uses_in l.initial.footprint) (of_operands (plain.operands (map expression_of l.all))) ≡ both (uses_in l.footprint) (of_operands (plain.operands (map expression_of (drop l.e-index l.all))))
