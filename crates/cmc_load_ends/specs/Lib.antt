pub mod LoadLengths
pub mod LoadWrites
