pub mod Retreating
pub mod Leading
