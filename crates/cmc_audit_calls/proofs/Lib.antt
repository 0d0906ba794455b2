pub mod Bare
pub mod OneReply
pub mod ReadAgain
