pub mod Marking
pub mod Noting
pub mod Totals
