pub mod LineLaws
pub mod EntryLike
