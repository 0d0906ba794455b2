pub mod NamesAgain
pub mod SummaryAgain
pub mod SummarySo
mod OneMore
