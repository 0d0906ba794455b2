pub mod Crews
pub mod Drives
pub mod Findings
