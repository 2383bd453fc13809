pub mod Holders
pub mod Chain
pub mod Seats
pub mod Steps
