pub mod Readiness
pub mod Armed
pub mod Latches
pub mod Takings
pub mod Turns
pub mod Laws
