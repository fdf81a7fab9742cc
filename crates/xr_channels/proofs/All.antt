-- What stands between the sides of all channels of an image, and each row on an end.
pub mod Wired
pub mod Frames
pub mod Chosen
pub mod Rows
pub mod OverLinks
pub mod SideEnds
pub mod Pauses
pub mod QuietPauses
pub mod QuietPlain
pub mod Arrivals
pub mod Moves
pub mod Begins
pub mod Example
