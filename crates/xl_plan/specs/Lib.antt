pub mod Layout
pub mod Planned
pub mod Users
