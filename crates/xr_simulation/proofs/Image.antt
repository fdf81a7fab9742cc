-- What the simulation asks of an image, and that the image of a checked kernel has it.
pub mod Places
pub mod ResourceNames
pub mod Identifiers
pub mod Bases
pub mod Lines
pub mod RootCode
pub mod Plans
pub mod Layout
pub mod Ends
pub mod ChannelLines
pub mod Sides
pub mod Footprints
pub mod VariableWords
pub mod KernelImage
