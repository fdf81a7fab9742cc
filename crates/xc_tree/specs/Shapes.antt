-- Shapes: what may stand around statements, and the form of `main` and of places.
pub mod Enclosing
pub mod Places
pub mod Main
pub mod Rules
