pub mod Threads
pub mod Narrow
pub mod Ready
pub mod Sided
pub mod Begun
pub mod ThreadCode
pub mod Rooted
pub mod Users
pub mod GoodPairs
pub mod GoodParts
pub mod Imaged
pub mod Gathering
mod TodayRules
pub mod TodayEarly
pub mod TodayCopied
pub mod TodayBuilt
