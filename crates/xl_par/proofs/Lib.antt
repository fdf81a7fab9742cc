pub mod Freeing
pub mod Names
pub mod Pools
pub mod Listed
pub mod Moves
pub mod Getting
pub mod Joining
pub mod SettingOff
