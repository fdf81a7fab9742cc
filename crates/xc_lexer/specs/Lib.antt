pub mod Names
pub mod Places
pub mod Tables
pub mod Lines
pub mod Steps
