pub mod Chains
mod JournalRunning
pub mod KeptRunning
mod Owning
mod Preparing
mod Recovering
mod Refusing
pub mod SomeKeptReplies
pub mod Staying
mod Writable
