pub mod Members
pub mod Readers
pub mod Seen
