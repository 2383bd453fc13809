pub mod Going
pub mod Quietly
pub mod Tearing
pub mod Telling
pub mod Past
