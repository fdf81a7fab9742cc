-- What is always so: the law of credits, within a core and over links, and the law of questions that have arrived.
pub mod Balances
pub mod BalancesOverLinks
pub mod Fresh
pub mod FreshRows
pub mod Ready
pub mod ReadyEnds
pub mod Deliveries
pub mod CreditsOverLinks
pub mod StreamReady
pub mod AnyDistance
