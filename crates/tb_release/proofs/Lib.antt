mod Vectors
pub mod FewRecords
pub mod Persons
pub mod Books
pub mod Edited
pub mod Chained
pub mod Fitting
pub mod FitTests
pub mod First
pub mod Made
pub mod Runs
pub mod Stamped
pub mod EntryLemmas
pub mod ChainFits
pub mod RevisedChains
pub mod Replayed
pub mod Reaching
