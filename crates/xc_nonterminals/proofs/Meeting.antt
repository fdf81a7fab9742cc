-- A row of tokens has one reading.
pub mod Openers
pub mod Meetings
pub mod Differing
pub mod LevelsMeet
pub mod NamesEnd
pub mod CallsMeet
pub mod CasesMeet
pub mod StatementsMeet
pub mod Sole
