pub mod Counting
pub mod Simulation
pub mod Recursion
pub mod Basics
pub mod Words
pub mod TextWords
pub mod Outlines
pub mod Moved
