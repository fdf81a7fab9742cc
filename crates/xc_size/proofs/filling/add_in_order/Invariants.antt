use Rattle.std.proofs.Common.{◌≡◌}
use Rattle.xc_size.specs.Known.{AreOfFunctions, AreSizesFrom}
use Rattle.xc_size.proofs.filling.add_in_order.Given as goal

abbrev pub invariant-loop-turn : goal.invariant-loop-turn
invariant-loop-turn l = record {
  all : l.sizes.all ≡ l.initial.sizes.all;
  functions : AreOfFunctions l.sizes;
  right : AreSizesFrom l.sizes l.turn;
}
