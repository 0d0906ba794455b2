pub mod AuditedYes
pub mod Given
pub mod Typed
pub mod Counted
pub mod Printed
