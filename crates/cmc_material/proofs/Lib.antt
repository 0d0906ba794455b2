pub mod ListForms
pub mod RowForms
pub mod PolicyForms
