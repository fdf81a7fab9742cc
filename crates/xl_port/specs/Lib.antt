pub mod Timings
pub mod Waits
pub mod Resources
pub mod Stamps
pub mod Outputs
pub mod Inputs
pub mod TimerInputs
