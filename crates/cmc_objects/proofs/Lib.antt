pub mod KeptLaws
pub mod KeyLaws
pub mod LookupLaws
pub mod Ranks
mod Copies
