pub mod Coming
pub mod PrintLaws
