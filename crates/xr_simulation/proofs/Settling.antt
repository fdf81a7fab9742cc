-- Items without an instruction: the program does them alone, until each branch is at one that has one.
pub mod Weights
pub mod Resting
pub mod Worlds
pub mod Items
pub mod Steps
pub mod Cases
pub mod All
pub mod Start
