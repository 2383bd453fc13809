mod Walks
pub mod Waiting
pub mod Few
pub mod Following
pub mod Given
pub mod Keeping
pub mod Telling
pub mod Led
pub mod Trailing
mod Vectors
