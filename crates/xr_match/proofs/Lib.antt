pub mod Frame
pub mod Through
pub mod Counted
pub mod Births
pub mod RunsBeside
pub mod Texts
pub mod Matching
