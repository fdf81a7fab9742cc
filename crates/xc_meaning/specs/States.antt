-- The states that a run goes through: channels, what branches have still to do, branches, and the whole.
pub mod Channels
pub mod Items
pub mod Branches
pub mod Worlds
