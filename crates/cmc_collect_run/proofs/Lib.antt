pub mod Moves
pub mod Loop
pub mod PrintLaws
