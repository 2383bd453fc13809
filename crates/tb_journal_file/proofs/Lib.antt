pub mod Putting
pub mod Recovering
