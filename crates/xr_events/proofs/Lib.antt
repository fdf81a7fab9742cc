pub mod Picks
pub mod Readiness
pub mod Takings
pub mod Latched
pub mod Lasting
pub mod Cases
pub mod Turns
pub mod Example
