use Rattle.std.proofs.Common.{◌≡◌, drop, map}
use Rattle.xc_kernel.specs.Kernels.{root_of}
use Rattle.xl_image.specs.Images.{roots_on}
use Rattle.xl_image.specs.Parts.{is_some_root}
use Rattle.xl_image.proofs.needs.has_root.Given as goal

abbrev pub invariant-loop-root : goal.invariant-loop-root
invariant-loop-root l = is_some_root (roots_on l.core (map root_of l.roots)) ≡ is_some_root (roots_on l.core (map root_of (drop l.root-index l.roots)))
