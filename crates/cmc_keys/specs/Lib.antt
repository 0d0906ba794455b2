pub mod Kinds
pub mod Files
pub mod Synthetic
pub mod Values
