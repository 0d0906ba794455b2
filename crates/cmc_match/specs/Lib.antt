pub mod Sets
pub mod Marks
pub mod SubjectNames
pub mod Matches
pub mod Facts
pub mod Revisions
