pub mod Positions
pub mod Words
