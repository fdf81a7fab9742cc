pub mod Cleared
pub mod Picked
