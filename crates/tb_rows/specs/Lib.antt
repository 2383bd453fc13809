pub mod FaultNames
pub mod Records
pub mod Columns
pub mod Formats
pub mod WholeFiles
pub mod Cutting
