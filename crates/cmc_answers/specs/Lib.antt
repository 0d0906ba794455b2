pub mod StandIns
pub mod Signings
pub mod Temporary
pub mod Answers
pub mod Wanted
pub mod Denials
