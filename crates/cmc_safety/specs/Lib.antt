pub mod Formed
pub mod MayAct
pub mod Completion
pub mod Invariants
pub mod Courses
pub mod Begins
