pub mod OneRow
pub mod Places
pub mod Ticking
pub mod Moving
pub mod Waits
pub mod Counts
pub mod FirstRows
pub mod RowOrder
