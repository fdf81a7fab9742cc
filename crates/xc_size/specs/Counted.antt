-- What parts of a program count for, as the code has these parts.
pub mod Statements
pub mod Nodes
pub mod Depth
