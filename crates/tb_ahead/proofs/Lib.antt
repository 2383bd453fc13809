mod Reaching
pub mod Kept
