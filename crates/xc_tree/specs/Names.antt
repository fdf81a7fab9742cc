-- The names of a program: where each is declared and known, which declaration it means, and the rules 301 to 305.
pub mod Marks
pub mod Scopes
pub mod Uses
pub mod Ports
pub mod Calls
pub mod Rules
