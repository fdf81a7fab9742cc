-- A `par`: its threads are got, set off and joined.
pub mod Acquisitions
pub mod AcquiringSteps
pub mod Rooms
pub mod Indices
pub mod Worlds
pub mod SetOff
pub mod OpenRoles
pub mod Opens
pub mod JoinDecision
pub mod JoinRoles
pub mod Joins
pub mod Resumes
