use Rattle.std.proofs.Common.{◌≡◌}
use Rattle.xc_kernel.specs.Kernels.{kernel_of}
use Rattle.xl_plan.proofs.Users.{cores_below}
use Rattle.xl_plan.proofs.channels.channel_cores.Given as goal

abbrev pub invariant-loop-channel : goal.invariant-loop-channel
invariant-loop-channel l = l.cores ≡ cores_below (kernel_of l.checked) l.channel
