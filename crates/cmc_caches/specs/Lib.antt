pub mod Told
pub mod Affected
pub mod Lines
pub mod Left
pub mod Board
pub mod Posted
