pub mod Built
pub mod Parsed
pub mod Plain
pub mod Tested
pub mod Told
