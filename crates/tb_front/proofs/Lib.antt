pub mod Prefixes
pub mod Holding
pub mod Moves
