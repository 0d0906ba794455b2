pub mod Forms
pub mod Holds
pub mod Setups
pub mod Flags
pub mod HeldInformers
pub mod Stages
pub mod ObjectForms
