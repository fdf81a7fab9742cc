-- A branch's own step: the thread's turn and the program's action beside it.
pub mod Branch
pub mod Turns
pub mod Events
pub mod Leaves
pub mod Answers
pub mod Ends
pub mod AnsweredTurns
pub mod EachTurn
