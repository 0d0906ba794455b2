pub mod Rows
pub mod Writes
pub mod Table
pub mod Sound
