pub mod Moments
pub mod ConditionsAgain
pub mod Places
pub mod StatusesAgain
pub mod WholeAgain
pub mod WholeForms
pub mod OneMore
