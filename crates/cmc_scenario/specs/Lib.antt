pub mod Applied
pub mod Roles
pub mod Scripts
pub mod Scenarios
pub mod Loads
