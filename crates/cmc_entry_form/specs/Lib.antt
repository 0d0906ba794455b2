pub mod LineForm
pub mod Entries
pub mod Lines
