use Rattle.std.proofs.Common.{drop}
use Rattle.xc_kernel.specs.Kernels.{kernel_of}
use Rattle.xc_disjoint.proofs.FirstSoFar.{Goes}
use Rattle.xc_disjoint.proofs.Judging.{AnyOf}
use Rattle.xc_disjoint.proofs.judge.first_of.Given as goal

abbrev pub invariant-loop-at : goal.invariant-loop-at
invariant-loop-at l = Goes (AnyOf (kernel_of l.kernel) l.table.entries.entries) (AnyOf (kernel_of l.kernel) (drop l.at l.table.entries.entries)) l.best
