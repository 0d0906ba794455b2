pub mod IssueClauses
pub mod Kept
