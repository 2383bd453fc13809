mod Advancing
pub mod Beginning
pub mod Beyond
mod Fitted
pub mod Keeping
mod Putting
mod Recording
mod Standing
mod Taking
