use Rattle.std.proofs.Common.{◌≡◌, map, take}
use Rattle.xc_kernel.specs.Kernels.{branch_of}
use Rattle.xl_ends.specs.Branches.{uses_of_branch}
use Rattle.xl_ends.proofs.branches.used_in_branches.Given as goal

abbrev pub invariant-loop-branch : goal.invariant-loop-branch
invariant-loop-branch l = l.used ≡ map (λ b. uses_of_branch l.channels (branch_of b)) (take l.branch-index l.branches)
