use Rattle.std.proofs.Common.{[], map}
use Rattle.xc_kernel.specs.Copy as copies
use Rattle.xc_kernel.specs.Kernels as kernel
use Rattle.xc_inline.specs.Parts.{cases_before}
use Rattle.xc_inline.proofs.parts.Cased.none.Goals as goal

pub returns : goal.returns
returns c = λ others i. record {
  made = copies.joined (c.nothing.ensures [] i) others.made;
  cases = cases_before (map kernel.case_of (c.new.ensures i)) others.cases;
  otherwise = others.otherwise;
}
