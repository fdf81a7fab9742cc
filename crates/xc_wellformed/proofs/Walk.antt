-- In the copy of a typed program each name stands for an instance of what it is declared as; so what holds of each part of the
-- text in such a scope holds of all code of the kernel: of arguments, of the parts of statements, of statements, functions and calls,
-- and of the roots.
pub mod Arguments
pub mod Parts
pub mod Statements
pub mod Roots
