-- That the relation holds at the start.
pub mod SetMachine
pub mod Boot
pub mod ProgramStart
pub mod Sides
pub mod Wires
pub mod Plain
pub mod PlainRuns
pub mod AtCode
pub mod AtBoot
