pub mod Scans
pub mod Used
pub mod Holding
pub mod Stepping
