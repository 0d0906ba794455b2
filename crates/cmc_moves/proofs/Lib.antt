pub mod Sounds
pub mod Tables
pub mod Decisions
pub mod Found
