-- The tokens and credits at ends and on links, and how a row or an arrival changes them.
pub mod Views
pub mod Changes
pub mod Credits
pub mod LinkCredits
pub mod Lines
pub mod Lengths
pub mod Locals
