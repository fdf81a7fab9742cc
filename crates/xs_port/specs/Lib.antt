pub mod Lines
pub mod Pins
pub mod Ports
pub mod State
