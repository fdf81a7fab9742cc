pub mod Errors
pub mod Forms
pub mod Stimulus
pub mod Lines
pub mod Numbers
