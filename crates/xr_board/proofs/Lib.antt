mod Added
mod Answering
mod NoneShort
mod Ready
pub mod Started
