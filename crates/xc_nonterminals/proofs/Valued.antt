-- Expressions and right sides.
pub mod Levels
pub mod Operators
pub mod Chains
pub mod Climbing
pub mod Atoms
pub mod Choosing
pub mod RightSides
