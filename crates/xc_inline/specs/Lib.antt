-- What the types of the copying walk stand for.
pub mod Scopes
pub mod Copied
pub mod PathSets
pub mod Numbers
pub mod Instances
pub mod Functions
pub mod Truths
pub mod Contexts
pub mod Handed
pub mod Words
pub mod Growth
pub mod Parts
pub mod Cases
pub mod Roots
