use Rattle.std.proofs.Common.{length, map}
use Rattle.xc_kernel.specs.Kernels.{root_of}
use Rattle.xl_image.specs.Roots.{RootsAreBuilt}
use Rattle.xt_programs.proofs.built.are_roots_built.Given as goal

-- the code of all roots is built where that of those that are left is
abbrev pub invariant-each : goal.invariant-each
invariant-each l = RootsAreBuilt (map root_of l.rest) → RootsAreBuilt (map root_of l.fn.roots)

abbrev pub decreases-each : goal.decreases-each
decreases-each l = length l.rest
