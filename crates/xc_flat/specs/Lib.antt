-- What the contracts of the copy's parts cite.
pub mod Ports
