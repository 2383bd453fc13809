pub mod Draws
pub mod Lines
pub mod Variables
pub mod Generated
