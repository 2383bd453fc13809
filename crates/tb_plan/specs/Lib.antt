pub mod Plans
pub mod Whole
pub mod Steps
pub mod Views
