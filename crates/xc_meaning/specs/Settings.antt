-- The steps of branches, by the kinds of what they have to do first.
pub mod Setting
pub mod Stores
pub mod Flow
pub mod Sides
pub mod Par
pub mod Channels
pub mod Transactions
pub mod Time
pub mod Transfers
pub mod Select
pub mod Kernel
