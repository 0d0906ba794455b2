pub mod GeneralNames
pub mod IssuedLaws
