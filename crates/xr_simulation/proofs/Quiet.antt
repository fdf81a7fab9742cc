-- Where the machine is quiet, so is the program.
pub mod Slots
pub mod Sides
pub mod Channels
pub mod Branches
