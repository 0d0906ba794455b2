pub mod Clauses
pub mod Written
