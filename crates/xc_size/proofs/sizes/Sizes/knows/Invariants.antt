use Rattle.std.proofs.Common.{drop}
use Rattle.xc_size.specs.Known.{AreKnown}
use Rattle.xc_size.proofs.sizes.Sizes.knows.Given as goal

abbrev pub invariant-loop-callee : goal.invariant-loop-callee
invariant-loop-callee l = AreKnown l.self.each (drop l.callee-index l.callees) → AreKnown l.self.each l.callees
