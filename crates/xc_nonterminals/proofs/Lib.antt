pub mod Derivations
pub mod Rests
pub mod Reading
pub mod Declaring
pub mod Valued
pub mod Stating
pub mod Meeting
