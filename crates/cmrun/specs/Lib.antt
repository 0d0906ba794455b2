pub mod Ends
pub mod Lines
pub mod Readings
pub mod Memory
pub mod Headline
pub mod Statuses
pub mod Words
pub mod Said
