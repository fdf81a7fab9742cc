use Rattle.std.proofs.Common.{map}
use Rattle.xc_kernel.specs.Kernels.{root_of}
use Rattle.xc_inline.proofs.roots.Rooted.none.Goals as goal

pub returns : goal.returns
returns c = λ scope. λ i. record { made = c.nothing.ensures scope i; roots = map root_of (c.new.ensures i) }
