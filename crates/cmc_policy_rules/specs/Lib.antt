pub mod Patterns
pub mod Allowed
pub mod Decisions
