pub mod Steps
pub mod Fields
mod Vectors
