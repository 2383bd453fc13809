pub mod Calls
pub mod HeldDisk
pub mod Laws
pub mod Writes
