-- What is left of a symbol that was read up to a place, and what a token makes of it.
pub mod Rests
pub mod Opening
pub mod Narrows
pub mod Alternatives
pub mod Spreads
pub mod Beginnings
pub mod Behinds
pub mod Overs
pub mod Heads
pub mod Advances
pub mod Moves
pub mod Choices
pub mod Aheads
pub mod Unfinished
