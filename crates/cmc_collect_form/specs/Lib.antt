pub mod Steps
pub mod Collections
