pub mod Ends
pub mod Sides
pub mod Uses
pub mod Branches
