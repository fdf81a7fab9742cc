-- What stands between the two sides of one channel, and how each step of a protocol changes it.
pub mod Sources
pub mod Found
pub mod Sends
pub mod Takes
pub mod Late
pub mod Updates
pub mod Plain
