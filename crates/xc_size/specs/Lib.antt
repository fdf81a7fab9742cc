pub mod Functions
pub mod Callees
pub mod Numbers
pub mod Sizes
pub mod Known
pub mod Limits
pub mod Counted
