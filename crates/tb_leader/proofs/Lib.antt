mod Writing
mod Ending
mod Texts
pub mod Continuing
pub mod Leading
