-- What a thread relies on and what it guarantees: no two are in each other's way, so code leads on whatever others do.
pub mod Apartness
pub mod Holding
pub mod Layouts
pub mod Less
pub mod Footprints
pub mod ThreadViews
pub mod Arrival
pub mod SilentSteps
pub mod Events
pub mod Stands
pub mod Variables
pub mod Phases
pub mod Selects
