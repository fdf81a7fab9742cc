pub mod Aimed
pub mod Loops
