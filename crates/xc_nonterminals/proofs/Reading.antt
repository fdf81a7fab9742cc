-- Paths through the functions and loops that read symbols and rows of them.
pub mod Paths
pub mod Loops
pub mod Whole
pub mod Items
pub mod Rows
pub mod Lasts
pub mod Exits
pub mod Listed
pub mod Insides
pub mod InsideRows
pub mod RowReads
pub mod RowSteps
pub mod Tests
pub mod Runs
pub mod Rounds
pub mod Stated
