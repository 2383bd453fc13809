pub mod Answers
pub mod ReplyLines
pub mod ReplyTexts
pub mod Counting
pub mod Homes
pub mod HomesWorlds
