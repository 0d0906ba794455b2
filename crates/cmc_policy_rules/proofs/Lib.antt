pub mod Pieces
pub mod Places
pub mod Decided
pub mod Finds
pub mod Decisions
