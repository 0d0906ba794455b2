pub mod Steps
pub mod Lengths
pub mod Laws
pub mod Sizes
pub mod Spelled
pub mod SmallValues
pub mod Shortest
pub mod BitLengths
