pub mod Values
pub mod GivenValues
