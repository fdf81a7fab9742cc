-- Statements.
pub mod Elses
pub mod Ifs
pub mod Marks
pub mod Targets
pub mod Transferring
pub mod Tails
pub mod Counting
pub mod Branches
pub mod CaseLists
pub mod CaseEnds
pub mod CaseItems
pub mod Guards
pub mod CaseSteps
pub mod Simples
pub mod Conditionals
pub mod Braces
