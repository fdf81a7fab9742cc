use Rattle.xr_board.specs.ForCores.{AreReady}
use Rattle.xr_board.proofs.alone.run_cores.Given as goal

abbrev pub invariant-windows : goal.invariant-windows
invariant-windows g l = AreReady g.U.RunName.listing g.U.RunName.stimulus g.U.RunName.ticks l.ran l.first l.second l.third l.fourth l.got.to0 l.got.to1 l.got.to2 l.got.to3
