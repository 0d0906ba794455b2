pub mod Advances
pub mod Kept
pub mod Changes
pub mod Notes
pub mod Prepared
pub mod Scripted
pub mod Leads
pub mod Plain
