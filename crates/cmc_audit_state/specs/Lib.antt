pub mod Standings
pub mod Heard
pub mod Journaled
pub mod OpenRows
