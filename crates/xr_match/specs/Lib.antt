pub mod Implements
pub mod Lives
pub mod Meanings
pub mod Sides
pub mod Sources
pub mod Systems
pub mod Matching
