pub mod Counting
pub mod Advancing
