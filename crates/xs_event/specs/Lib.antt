pub mod Picks
pub mod Readiness
pub mod Watches
