pub mod Values
pub mod Elements
pub mod Integers
pub mod Builders
pub mod Keys
