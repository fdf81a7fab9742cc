pub mod Goods
pub mod Reading
pub mod PartLemmas
pub mod DigitLemmas
