pub mod Spelling
pub mod Payloads
pub mod Fields
pub mod Reading
pub mod Laws
