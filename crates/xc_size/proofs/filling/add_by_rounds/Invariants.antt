use Rattle.std.proofs.Common.{◌≡◌}
use Rattle.xc_size.specs.Known.{AreOfFunctions, AreSizesAt}
use Rattle.xc_size.proofs.filling.add_by_rounds.Given as goal

abbrev pub invariant-loop : goal.invariant-loop
invariant-loop l = record {
  all : l.sizes.all ≡ l.fn.sizes.all;
  functions : AreOfFunctions l.sizes;
  right : AreSizesAt l.sizes l.counter;
}
