use Rattle.xr_board.proofs.Answering.{can_answer}
use Rattle.xr_board.proofs.seat.Seat.turn.Goals as goal

pub returns-clause-answer : goal.returns-clause-answer
returns-clause-answer g c = can_answer _ _ _ _ _ _ _ _ c.turn_of.ensures.answer
