pub mod Fitting
pub mod Opening
pub mod Reading
pub mod Records
pub mod States
pub mod Stops
pub mod Taking
pub mod Through
