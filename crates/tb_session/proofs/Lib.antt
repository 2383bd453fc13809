pub mod SomeReplies
pub mod Analysts
pub mod LegalParties
pub mod Owning
mod Texts
mod Revising
mod Preparing
mod Leading
mod PastTexts
mod HomeTexts
mod PastTaking
mod PastPrices
mod PastCubes
mod PastCounts
mod PastReplies
mod PastShown
mod Numbers
mod Publishing
mod Describing
mod OwnCells
mod RunSteps
mod TakeRuns
mod ReplyTakes
mod RunLaws
