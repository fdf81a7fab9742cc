-- How many steps a family has done, and the greatest counts of statements, by which an image's instructions are bounded.
pub mod Families
pub mod KernelCounts
pub mod TextCounts
pub mod Fit
