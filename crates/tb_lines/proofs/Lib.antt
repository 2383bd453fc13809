pub mod Transcribing
pub mod Paying
pub mod Completing
pub mod OtherWords
mod Cutting
mod Ends
mod SoFar
mod Listing
