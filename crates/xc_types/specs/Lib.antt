pub mod Enclosing
pub mod Checker
pub mod After
pub mod Given
pub mod Judged
pub mod Communications
pub mod Places
pub mod Mains
