mod OneMore
mod Whole
pub mod SameReplies
