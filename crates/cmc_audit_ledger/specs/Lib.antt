pub mod Ledgers
pub mod EntryCounts
pub mod Starts
pub mod CallRows
pub mod Positions
