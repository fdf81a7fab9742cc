pub mod Rules
pub mod Reads
