pub mod Orders
mod FlagLaws
pub mod Orderly
mod StageLaws
pub mod Turns
mod Grips
