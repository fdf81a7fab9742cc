pub mod Protocols
pub mod Transfers
pub mod Transactions
