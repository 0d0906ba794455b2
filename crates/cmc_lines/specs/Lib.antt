pub mod Shown
pub mod LineTree
