pub mod Backwards
pub mod Along
pub mod PastRules
