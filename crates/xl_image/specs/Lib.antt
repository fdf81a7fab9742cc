pub mod Code
pub mod Images
pub mod Roots
pub mod Parts
pub mod TodayLaws
