pub mod Logs
pub mod RoleStates
pub mod Came
pub mod Dues
pub mod OneRun
pub mod Open
pub mod Remembered
pub mod Questioned
