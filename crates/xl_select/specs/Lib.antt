pub mod Armed
pub mod OpeningCode
pub mod Holes
pub mod Opening
pub mod Entry
