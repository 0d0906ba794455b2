pub mod Readiness
pub mod History
pub mod KnownTimes
