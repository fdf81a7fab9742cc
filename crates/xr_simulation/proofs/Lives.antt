-- The lives of threads and the families that they belong to: no life does too many steps.
pub mod OwnLife
pub mod Names
pub mod Uses
pub mod Gets
pub mod Families
pub mod Pieces
pub mod Quiet
pub mod Silent
pub mod ParBegins
pub mod OwnEvents
pub mod Own
pub mod Links
pub mod Bound
