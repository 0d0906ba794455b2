pub mod Parked
pub mod Feeds
pub mod WakeUps
pub mod Queues
