pub mod Starts
pub mod Holders
pub mod Custodians
pub mod Turns
pub mod Lends
