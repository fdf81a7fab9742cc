use Rattle.xc_size.specs.Known.{AreNextSizes}
use Rattle.xc_size.proofs.filling.next_sizes.Given as goal

abbrev pub invariant-loop-number : goal.invariant-loop-number
invariant-loop-number l = AreNextSizes l.sizes l.each l.number
