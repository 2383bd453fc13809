pub mod Categories
pub mod Spelled
pub mod SyntaxRules
pub mod OneAnswer
pub mod Fitting
