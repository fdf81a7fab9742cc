use Rattle.xc_kernel.specs.Kernels.{kernel_of}
use Rattle.xl_image.proofs.Gathering.{Gathered}
use Rattle.xl_image.proofs.cores.image.Given as goal

abbrev pub invariant-loop-core : goal.invariant-loop-core
invariant-loop-core l = Gathered (kernel_of l.checked) l.core l.cores
