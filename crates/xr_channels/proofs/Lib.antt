pub mod Tokens
pub mod Sides
pub mod All
pub mod Laws
