pub mod Phases
pub mod Lanes
pub mod Runs
