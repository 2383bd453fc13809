pub mod Lines
pub mod Outputs
pub mod Moments
pub mod Streams
pub mod Sessions
pub mod Lists
