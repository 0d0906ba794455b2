mod Joining
pub mod CallLaws
mod OrderLaws
mod EntryLaws
mod SummaryLaws
