pub mod Decisions
pub mod Quiet
pub mod Answers
pub mod Tables
pub mod PassActions
pub mod Prospects
