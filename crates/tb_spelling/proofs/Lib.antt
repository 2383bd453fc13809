mod Vectors
pub mod Formats
pub mod Edits
pub mod Lengths
pub mod OneMore
pub mod Rereading
