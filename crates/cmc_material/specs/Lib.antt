pub mod Keys
pub mod Lists
pub mod MaterialRows
pub mod Approvers
