pub mod Endings
pub mod Sessions
pub mod Hosting
pub mod Laws
