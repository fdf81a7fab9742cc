use Rattle.std.proofs.Common.{[], map}
use Rattle.xc_kernel.specs.Copy as copies
use Rattle.xc_kernel.specs.Kernels as kernel
use Rattle.xc_inline.specs.Parts.{branches_before}
use Rattle.xc_inline.proofs.parts.Branched.none.Goals as goal

pub returns : goal.returns
returns c = λ others i. record { made = copies.joined (c.nothing.ensures [] i) others.made; branches = branches_before (map kernel.branch_of (c.new.ensures i)) others.branches }
