pub mod Present
pub mod Sums
pub mod Written
