use Rattle.xr_board.proofs.Answering.{window_in_range}
use Rattle.xr_board.proofs.seat.turn_of.Goals as goal

pub returns-in-Ran-clause-range : goal.returns-in-Ran-clause-range
returns-in-Ran-clause-range g c = window_in_range g.U.RunName.ticks c.args.cell.now.part.ran c.ran-window.result c.is_cell.ensures.part.few c.ran-window.ensures.ran c.in-Ran.ensures.can.left
