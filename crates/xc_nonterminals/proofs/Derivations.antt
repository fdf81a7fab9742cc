-- What symbols derive: its tokens, its depth, what it begins with, and how its derivations are taken apart.
pub mod Columns
pub mod TokenSets
pub mod Covers
pub mod Firsts
pub mod Forth
pub mod Reaches
pub mod TokenReads
pub mod Lists
pub mod Depths
pub mod Counts
pub mod Cuts
pub mod Single
pub mod Inverse
pub mod Heights
pub mod Statures
