pub mod Visiting
pub mod Working
