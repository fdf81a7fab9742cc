pub mod BoardTurns
pub mod CellState
pub mod ForCores
pub mod Gathers
pub mod Inbox
pub mod Short
pub mod Turns
