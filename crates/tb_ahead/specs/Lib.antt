pub mod Publishing
pub mod Puts
pub mod Keeping
pub mod Keepers
pub mod Stages
pub mod Trials
