pub mod Rows
pub mod Events
pub mod Permits
pub mod Taking
pub mod Beginning
