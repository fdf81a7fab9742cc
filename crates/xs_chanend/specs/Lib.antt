pub mod Ends
pub mod Front
