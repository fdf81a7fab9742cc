mod ThreadSteps
mod UseSteps
mod Limits
mod RootSteps
mod RootEnds
mod Firsts
mod Whole
mod NeedsExamples
pub mod FirstSoFar
pub mod FootprintSteps
pub mod Sets
pub mod Meets
pub mod Covered
pub mod Clashing
pub mod CodeSteps
pub mod ChannelSteps
pub mod UseEntries
pub mod Users
pub mod Holding
pub mod WholeUses
pub mod Judging
