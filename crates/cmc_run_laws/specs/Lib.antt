pub mod Settled
pub mod Issuances
pub mod Calm
pub mod Begins
pub mod Lengths
