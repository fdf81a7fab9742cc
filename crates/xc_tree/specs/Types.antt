-- Types: what names may be used for, and the types of expressions.
pub mod Named
pub mod Entities
pub mod Words
pub mod Calls
pub mod Sites
pub mod Rules
