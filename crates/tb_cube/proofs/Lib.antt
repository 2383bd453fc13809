pub mod Grid
mod Reduced
pub mod Adding
pub mod Changes
pub mod Packed
pub mod ByColumn
pub mod Walks
pub mod Kept
pub mod Lists
pub mod Steps
pub mod Leading
pub mod Narrowed
pub mod Holding
pub mod Tallied
