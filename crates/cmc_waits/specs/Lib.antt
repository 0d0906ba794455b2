pub mod Waits
pub mod Named
