use Rattle.std.proofs.Common.{drop}
use Rattle.xc_kernel.specs.Kernels.{kernel_of}
use Rattle.xl_image.specs.Images.{sided_roots}
use Rattle.xl_image.proofs.Begun.{Begun}
use Rattle.xl_image.proofs.roots.emit_roots.Given as goal

abbrev pub invariant-loop-number : goal.invariant-loop-number
invariant-loop-number l =
    Begun (kernel_of l.checked) l.core l.plan (sided_roots (kernel_of l.checked)) (drop l.number (sided_roots (kernel_of l.checked))) l.e l.entries
