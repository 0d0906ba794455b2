pub mod Changes
pub mod Answers
pub mod Kept
pub mod Claims
pub mod Permanence
