pub mod SomeReplies
mod Analysts
mod Asking
mod Led
mod Describing
