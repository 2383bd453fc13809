pub mod FaultNames
pub mod Faults
pub mod Grammar
pub mod Laws
pub mod Meanings
pub mod Reading
pub mod Views
