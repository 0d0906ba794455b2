pub mod Indexes
pub mod Marks
pub mod Caches
pub mod Indexed
pub mod Watches
pub mod Informers
pub mod Superseded
