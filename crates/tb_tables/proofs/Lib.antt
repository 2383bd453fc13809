pub mod Cubed
pub mod HomesLines
mod FewCells
mod Counts
pub mod QueryAnswers
