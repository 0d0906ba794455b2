pub mod Last
pub mod OneNext
pub mod Writes
pub mod Table
pub mod Sound
