pub mod Histories
pub mod Bodies
pub mod Depths
pub mod Scenarios
