pub mod Lists
pub mod Descriptions
pub mod Told
pub mod Writers
