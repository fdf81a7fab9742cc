pub mod Grown
pub mod Acting
pub mod Transferring
pub mod Asking
pub mod Sending
pub mod Receiving
