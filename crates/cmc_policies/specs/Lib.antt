pub mod Renewal
pub mod Reasons
pub mod Judges
