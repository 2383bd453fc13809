pub mod Added
pub mod Among
pub mod Descent
pub mod Own
pub mod Spread
pub mod Tables
pub mod ToCome
pub mod Zipped
