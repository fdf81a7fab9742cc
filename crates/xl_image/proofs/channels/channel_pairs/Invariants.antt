use Rattle.std.proofs.Common.{◌≡◌}
use Rattle.xc_kernel.specs.Kernels.{kernel_of}
use Rattle.xl_image.specs.Images.{pairs_below}
use Rattle.xl_image.proofs.channels.channel_pairs.Given as goal

abbrev pub invariant-loop-channel : goal.invariant-loop-channel
invariant-loop-channel l = l.pairs ≡ pairs_below (kernel_of l.checked) l.channel
