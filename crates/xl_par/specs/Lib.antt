pub mod Roots
pub mod Acquired
pub mod Opening
pub mod Closing
