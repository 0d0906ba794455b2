pub mod SummaryForm
pub mod Laws
